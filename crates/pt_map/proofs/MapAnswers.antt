-- A map from its start to its end: what its steps show of its answer.
use Rattle.std.proofs.Common.{◌≡◌, ℕ, ◌+◌, ◌-◌, List, [], ◌++◌, refl, ap, sym, subst, ◌∙◌}
use Rattle.std.specs.Prelude.{length, Result, Ok, Err}
use Rattle.pt_model.specs.declared.block.Block.{Block}
use Rattle.pt_model.specs.declared.block.Prot.{Prot}
use Rattle.pt_model.specs.Layout.{Layout}
use Rattle.pt_model.specs.Book.{map_refusal}
use Rattle.pt_format.specs.Laws.{IsLayout}
use Rattle.pt_tile.specs.declared.extent.Extent.{Extent}
use Rattle.pt_view.specs.declared.view.View.{View}
use Rattle.pt_view.specs.declared.view.Node.{Node}
use Rattle.pt_view.specs.Views.{Aside, IsAtRest, book_of, linked_count}
use Rattle.pt_walk.specs.Walks.{OwnsOver, Rests}
use Rattle.pt_map.specs.declared.refused.MapRefused.{MapRefused}
use Rattle.pt_map.specs.Answers.{Accounts, Answers, IsMapped, IsRefused, IsShortOf, IsWanting, KeepsPurse, LinksAll, extent_at}
use Rattle.pt_map.specs.Requests.{EndsBelow, IsOfNumbers, MappedBelow, IsRefusedByNumbers, IsRequested, occupied}
use Rattle.pt_map.proofs.MapFromRoot.{Reached, owns_table, path_long, standing, top_over}
use Rattle.pt_map.proofs.MapResults.{Standing, rested}
use Rattle.pt_view.proofs.Loads.{loads_here}
use Rattle.pt_map.proofs.MapFromTable.{refused_walked, linked_same}
use Rattle.pt_map.specs.declared.refused.MapRefused.TheVariants as refused
use Rattle.pt_map.proofs.MapResults as results

-- the path stays
pub ends_path : (f : Layout) (tells alone : Type 0) (linked : ℕ) (v w : View) (x : Extent) (level : ℕ) (r : Result (Unit {0}) MapRefused) → EndsBelow f tells alone linked v w x level r → w.path ≡ v.path
ends_path f tells alone linked v w x level (Ok t) m = m.path
ends_path f tells alone linked v w x level (Err e) m = m.stays.path

-- The extent was mapped from the lowest table over it or refused, and the way was left.
pub record Done (f : Layout) (tells alone alone_d : Type 0) (v u d w z : View) (x : Extent) (root level linked : ℕ) (r : Result (Unit {0}) MapRefused) : Type 0 where
  pub reached : Reached f tells alone v u d x root level
  pub ends : EndsBelow f tells alone_d linked d w x level r
  pub left : (front nodes : List Node) → w.path ≡ front ++ nodes → length nodes ≡ root - level + 1 → z ≡ record w { path = front }

module _ {f : Layout} (good : IsLayout f) {tells alone alone_d : Type 0} {v u d w z : View} {x : Extent} {root level linked : ℕ} {r : Result (Unit {0}) MapRefused}
    (h : Done f tells alone alone_d v u d w z x root level linked r) where
  path_stays : (r : Result (Unit {0}) MapRefused) → EndsBelow f tells alone_d linked d w x level r → w.path ≡ d.path
  path_stays (Ok t) m = m.path
  path_stays (Err e) m = m.stays.path

  -- the tables over the extent are left in the end
  at_rest : z ≡ rested w
  at_rest = h.left [] w.path refl (ap length (path_stays r h.ends) ∙ path_long good h.reached)

  here : Standing f tells v d h.reached.begun.may.rest.0 x level
  here = standing good h.reached h.reached.begun.may.rest.0 h.reached.begun.may.rest.1

  is_mapped : MappedBelow f tells alone_d linked d w x level → (blocks : List Block) → IsAtRest f v blocks → IsMapped f tells v z blocks x
  is_mapped m blocks rest = subst (λ (y : View). IsMapped f tells v y blocks x) (sym at_rest) (results.is_mapped good (standing good h.reached blocks rest) m)

  pub answers_by : (r : Result (Unit {0}) MapRefused) → EndsBelow f tells alone_d linked d w x level r → Answers f tells v z (occupied f x) x r
  answers_by (Ok t) m = record {
    range = (is_mapped m h.reached.begun.may.rest.0 h.reached.begun.may.rest.1).range;
    accepted = λ blocks rest. results.accepts good (standing good h.reached blocks rest) m;
    mapped = is_mapped m;
  }
  answers_by (Err e) m = record {
    stays = subst (IsRefused f tells v) (sym at_rest) (results.stays_by good here m.stays h.reached.begun.may.rest.1.path);
    purse = subst (λ (y : View). KeepsPurse v y e) (sym at_rest) (results.keeps_purse good here w e m.purse);
    refused = λ blocks rest. results.is_refused good (standing good h.reached blocks rest) alone_d linked w e m.cause;
    wants = λ blocks rest. subst (λ (y : View). IsWanting f tells v y blocks x e) (sym at_rest) (results.is_wanting good (standing good h.reached blocks rest) alone_d linked w e m.cause);
  }

  pub answers : Answers f tells v z (occupied f x) x r
  answers = answers_by r h.ends

  rests_by : (r : Result (Unit {0}) MapRefused) → Answers f tells v z (occupied f x) x r → Rests f z
  rests_by (Ok t) m = (_, (m.mapped h.reached.begun.may.rest.0 h.reached.begun.may.rest.1).rest)
  rests_by (Err e) m =
      let s = m.stays in let rest = h.reached.begun.may.rest in
      (rest.0, record { path = s.path ∙ rest.1.path; prepared = s.prepared ∙ rest.1.prepared; end = s.end ∙ rest.1.end; pieces = s.book.pieces ∙ rest.1.pieces })

  pub rests_after : Rests f z
  rests_after = rests_by r answers

  -- over a lone holder, which has set this aside
  module _ (aside : Aside) (is : linked ≡ linked_count v aside) (lone : alone) (a : alone_d) (owned : OwnsOver f u x.first level root) where
    accounts_by : (r : Result (Unit {0}) MapRefused) → EndsBelow f tells alone_d linked d w x level r → Accounts f v z aside x r
    accounts_by (Ok t) m = λ blocks rest.
        subst (λ (y : View). LinksAll f v y aside blocks x) (sym at_rest)
        (results.links_all good (standing good h.reached blocks rest) m aside is a (top_over good h.reached lone) h.reached.range.under (owns_table good h.reached owned))
    accounts_by (Err e) m =
        let s = results.stays_by good here m.stays h.reached.begun.may.rest.1.path in (
          ap (λ (y : View). linked_count y aside) at_rest ∙ linked_same v (rested w) aside s.range s.book,
          λ blocks rest. subst (λ (n : ℕ). IsShortOf f v n blocks x e) is
              (results.is_short_of good (standing good h.reached blocks rest) alone_d linked w a (top_over good h.reached lone) h.reached.range.under (owns_table good h.reached owned) e m.cause),
        )

    pub accounts : Accounts f v z aside x r
    accounts = accounts_by r h.ends

-- The map of an extent is that of the request whose numbers ask for it.
module _ (f : Layout) (tells : Type 0) (v w : View) (va pa len : ℕ) (prot : Prot) (x : Extent) (asked : IsRequested f v.first v.count va pa len prot x) where
  same_refusal : (blocks : List Block) → map_refusal f (book_of v blocks) va pa len ≡ occupied f x (book_of v blocks)
  same_refusal blocks = asked.refusal (book_of v blocks) (refl, refl)

  pub answers_request : (r : Result (Unit {0}) MapRefused) → Answers f tells v w (occupied f x) x r → Answers f tells v w (λ book. map_refusal f book va pa len) (extent_at f va pa len prot) r
  answers_request (Ok t) m = subst (λ (y : Extent). Answers f tells v w (λ book. map_refusal f book va pa len) y (Ok t)) asked.is (record {
    range = m.range;
    accepted = λ blocks rest. same_refusal blocks ∙ m.accepted blocks rest;
    mapped = m.mapped;
  })
  answers_request (Err e) m = subst (λ (y : Extent). Answers f tells v w (λ book. map_refusal f book va pa len) y (Err e)) asked.is (record {
    stays = m.stays;
    purse = m.purse;
    refused = λ blocks rest. same_refusal blocks ∙ m.refused blocks rest;
    wants = m.wants;
  })

-- what holds of each refusal by numbers
by_numbers : (P : MapRefused → Type 0) → P refused.Misaligned → P refused.OutsideLease → P refused.OutputRange → (e : MapRefused) → IsOfNumbers e → P e
by_numbers P a b c refused.Misaligned n = a
by_numbers P a b c refused.OutsideLease n = b
by_numbers P a b c refused.OutputRange n = c
by_numbers P a b c (refused.Occupied address) n = absurd n
by_numbers P a b c (refused.NoFrames absent held) n = absurd n

-- A request that is refused by its numbers leaves all as it was.
module _ (f : Layout) (tells : Type 0) (v : View) (va pa len : ℕ) (x : Extent) where
  pub answers_numbers : (e : MapRefused) → IsRefusedByNumbers f v.first v.count va pa len e → Answers f tells v v (λ book. map_refusal f book va pa len) x (Err e)
  answers_numbers e h = record {
    stays = refused_walked f tells v v loads_here refl;
    purse = by_numbers (λ r. KeepsPurse v v r) refl refl refl e h.of_numbers;
    refused = λ blocks rest. h.refusal (book_of v blocks) (refl, refl);
    wants = λ blocks rest. by_numbers (λ r. IsWanting f tells v v blocks x r) tt tt tt e h.of_numbers;
  }

  pub accounts_numbers : (aside : Aside) (e : MapRefused) → IsRefusedByNumbers f v.first v.count va pa len e → Accounts f v v aside x (Err e)
  accounts_numbers aside e h = (refl, λ blocks rest. by_numbers (λ r. IsShortOf f v (linked_count v aside) blocks x r) tt tt tt e h.of_numbers)

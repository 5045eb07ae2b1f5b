-- Where a live view spans the whole space, the rule holds with this view alone.
use Rattle.std.proofs.Common.{◌≡◌, ◌≢◌, ◌⊎◌, ℕ, zero, suc, ◌<◌, ◌≤◌, List, [], ◌∷◌, sym, refl, ap, ◌∙◌, subst, arith}
use Rattle.std.specs.Prelude.{IsTrue, nat_lt}
use Rattle.std.specs.List.{AllByRecursion}
use mathlib.Core.Option.{some, some-injective, some-ne-none}
use mathlib.Core.Logic.{dite}
use native.Mathlib.Decide.{ℕ_discrete}
use lib.ListN.{get_elem?}
use Rattle.pt_model.specs.declared.position.Position.{Position}
use Rattle.pt_model.specs.Layout.{Layout, input_pages}
use Rattle.pt_model.specs.Tables.{end_of_table, is_spine}
use Rattle.pt_model.specs.Words.{tag, root_level}
use Rattle.pt_view.specs.declared.view.View.{View}
use Rattle.pt_model.specs.Sets.{IsAmong}
use Rattle.pt_view.specs.Lists.{IsIn}
use Rattle.pt_view.specs.Pieces.{table_of}
use Rattle.pt_view.specs.Calls.{meets_span}
use Rattle.pt_view.specs.Views.{spent}
use Rattle.pt_rule.specs.Totals.{total, Each, covers, holds, prepares, has_table, has_piece, has_word, has_bridge}
use Rattle.pt_rule.specs.Tags.{IsEnd, Chained}
use Rattle.pt_rule.specs.Linked.{is_in_tree}
use Rattle.pt_rule.specs.Lawful.{Lawful, HasBook, HasPath, IsPreparedAt, IsBridged}
use Rattle.pt_rule.proofs.TotalsKept.{total_only}
use Rattle.pt_rule.proofs.SpansFacts.{covers_none, whole_only}
use Rattle.pt_rule.proofs.RegroupedViews.{regrouped}

pub only : (P : View → Type 0) (v : View) → P v → Each (v ∷ []) P
only P v h zero u e = subst P (some-injective v u e) h
only P v h (suc j) u e = absurd (some-ne-none u (sym e))

nowhere_empty : (page : ℕ) → covers page spent ≡ 0
nowhere_empty page = covers_none page spent refl

module _ (f : Layout) (n l : ℕ) (words : List ℕ) (views : List View) (id : ℕ) (v : View) (r : Lawful f n l words views) (at : get_elem? views id ≡ some v) (whole : v.count ≡ input_pages f) where
  -- each other view is spent
  pub others_spent : (j : ℕ) (u : View) → j ≢ id → get_elem? views j ≡ some u → u ≡ spent
  others_spent j u ne there = r.sizes.dead j u there (whole_only f views r.spans id j v u ne at whole there)

  pub only_live : (j : ℕ) (u : View) → get_elem? views j ≡ some u → 0 < u.count → j ≡ id
  only_live j u there live = dite (ℕ_discrete j id) (λ e. e) (λ ne. absurd (let none = whole_only f views r.spans id j v u ne at whole there in omega arith))

  -- a number that a spent view adds nothing to
  alone_total : (c : View → ℕ) → c spent ≡ 0 → total c (v ∷ []) ≡ total c views
  alone_total c none = let t = total_only c views id v at (λ j u ne there. ap c (others_spent j u ne there) ∙ none) in omega arith

  alone_reached : ((j : ℕ) × (u : View) × (get_elem? views j ≡ some u) × (0 < u.count) × (u.top ≡ root_level words)) →
      (j : ℕ) × (u : View) × (get_elem? (v ∷ []) j ≡ some u) × (0 < u.count) × (u.top ≡ root_level words)
  alone_reached (j, u, there, live, is) = dite (ℕ_discrete j id)
      (λ e. let same : u ≡ v = some-injective u v (sym there ∙ ap (get_elem? views) e ∙ at) in
      (0, v, refl, subst (λ (z : View). 0 < z.count) same live, subst (λ (z : View). z.top ≡ root_level words) same is))
      (λ ne. absurd (let dead : u.count ≡ 0 = ap (λ (z : View). z.count) (others_spent j u ne there) in omega arith))

  pub alone : Lawful f n l words (v ∷ [])
  alone = regrouped f n l words views (v ∷ []) r (record {
    pages = λ page. alone_total (covers page) (nowhere_empty page);
    held = λ h. alone_total (holds h) refl;
    prepared = λ h. alone_total (prepares h) refl;
    bridge = λ h i. alone_total (has_bridge f h i) refl;
    pieces = λ i p. alone_total (has_piece f p i) refl;
    entries = λ i p. alone_total (has_word f p i) refl;
    tables = λ p. ap (nat_lt 0) (alone_total (has_table p) refl);
    at = only (λ u. IsPreparedAt words u.prepared) v (r.frames.at id v at);
    bridged = only (λ u. IsBridged f n words views u.levels u.prepared) v (r.frames.bridges id v at);
    greatest = only (λ u. u.top ≤ root_level words) v (r.root.greatest id v at);
    reached = alone_reached r.root.reached;
    homes = only (λ u. AllByRecursion (λ x. IsTrue (is_in_tree l words views (table_of f x))) u.pieces) v (r.entries.homes id v at);
    books = only (λ u. 0 < u.count → HasBook f u) v (r.books id v at);
    paths = only (HasPath f n words views) v (r.paths id v at);
    purses = record { chained = only (λ u. Chained words u.end u.purse) v (r.purses.chained id v at); ends = only (λ u. IsEnd n u.end) v (r.purses.ends id v at) };
    live = only (λ u. 0 < u.count → (u.frames ≡ n) × (u.levels ≡ l)) v (r.sizes.live id v at);
    dead = only (λ u. u.count ≡ 0 → u ≡ spent) v (r.sizes.dead id v at);
    busy = only (λ u. u.count ≡ input_pages f → (h : ℕ) → h < n → IsIn u.busy h → tag words h ≢ 0) v (r.busy id v at);
    known = only (λ u. (p : Position) → IsAmong u.known p → IsTrue (is_in_tree l words views p) × (IsTrue (is_spine u.levels p) ⊎ IsTrue (meets_span u p.base (end_of_table f p)))) v
        (r.known id v at);
  })

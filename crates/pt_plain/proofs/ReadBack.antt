-- Where the rule holds of words and a view of the whole space, the fields are those of that view, and it has noted all
-- that the words say, then the view that the words and fields say agrees with it, and the rule holds with it too.
use Rattle.std.proofs.Common.{◌≡◌, ◌≢◌, ◌⊎◌, inl, inr, true, ℕ, ◌+◌, ◌-◌, ◌<◌, ◌≤◌, List, [], ◌∷◌, length, refl, ap, sym, ◌∙◌, subst, arith, ⊎_elim}
use Rattle.std.specs.Prelude.{IsTrue, Option, None, Some, nat_le, nat_lt, ◌&&◌}
use Rattle.std.proofs.lemmas.Bool.{and_from, and_parts, le-leb, leb-true, lt-ltb, ltb-true, or_cases, or_left, or_right}
use Rattle.std.proofs.lemmas.List.{append-nil}
use Rattle.std.proofs.lemmas.Nat.{pow_pos}
use Rattle.pt_model.specs.declared.position.Position.{Position}
use Rattle.pt_model.specs.Layout.{Layout, input_pages}
use Rattle.pt_model.specs.Sets.{IsAmong, SamePositions, places}
use Rattle.pt_model.specs.Tables.{end_of_table, is_spine}
use Rattle.pt_model.specs.Words.{placed_at, root_level, tag}
use Rattle.pt_model.proofs.Positions.{among_all}
use Rattle.pt_view.specs.declared.view.View.{View}
use Rattle.pt_view.specs.declared.view.Node.{Node}
use Rattle.pt_view.specs.declared.view.Prepared.{Prepared}
use Rattle.pt_view.specs.Lists.{IsIn, SameFrames}
use Rattle.pt_view.specs.Calls.{HasFramesBelow, meets_span}
use Rattle.pt_view.specs.Views.{SameBook, SamePurse, SameRange}
use Rattle.pt_rule.specs.Tags.{Chained, first_or}
use Rattle.pt_rule.specs.Totals.{has_table, total}
use Rattle.pt_rule.specs.Linked.{is_in_tree}
use Rattle.pt_rule.specs.Lawful.{IsOnPath, IsOwnTable, IsPreparedAt, Lawful}
use Rattle.pt_rule.specs.WholeView.{pieces_in, prepared_frame, tables_in}
use Rattle.pt_rule.proofs.Laws.{views_note, whole_is_read}
use Rattle.pt_view.proofs.Members.{all_map}
use Rattle.pt_plain.specs.Owner.{Fields, HasWholeSpan, IsOwner, chain_of, known_in, nodes_down, prepared_at, whole_view}
use Rattle.pt_plain.proofs.Chains.{busy_tag, chain_back, tag_busy}
use Rattle.pt_plain.proofs.Laws.{Laws}
use Rattle.pt_plain.proofs.Matches.{IsPlain, Matches}
use Rattle.pt_plain.proofs.Owners.{shown}
use Rattle.pt_plain.proofs.Paths.{AreTagged, levels_back, nodes_back}
use Rattle.pt_plain.proofs.Known.{known_cases, known_spine, known_table}

-- a view that has found busy what isn't free and what lies below the number of the fields, and found linked what is in its tree
pub record Noted (o : Fields) (u : View) : Type 0 where
  pub within : (g : ℕ) → IsIn u.busy g → g < o.frames
  pub busy : (g : ℕ) → g < o.frames → tag o.words g ≢ 0 → IsIn u.busy g
  pub known : (p : Position) → IsAmong (known_in o.levels u.tables u.top) p → IsAmong u.known p
  pub taken : HasFramesBelow u o.taken_below

-- two views that differ in what they have met alone
pub record Shows (u w : View) : Type 0 where
  pub range : SameRange u w
  pub book : SameBook u w
  pub purse : SamePurse u w
  pub path : w.path ≡ u.path
  pub prepared : w.prepared ≡ u.prepared

-- two views that differ in their histories alone
pub record Agrees (u w : View) : Type 0 where
  pub same : Shows u w
  pub busy : SameFrames u.busy w.busy
  pub known : SamePositions u.known w.known

prepared_back : (words : List ℕ) (o : Option Prepared) → IsPreparedAt words o → IsPlain o → prepared_at words (prepared_frame o) ≡ o
prepared_back words None at plain = refl
prepared_back words (Some x) at plain = λ i. Some (record { frame = x.frame; position = at i; bridge = sym plain.0 i })

module _ {f : Layout} (laws : Laws f) {o : Fields} {u : View} (r : Lawful f o.frames o.levels o.words (u ∷ [])) (whole : u.count ≡ input_pages f) (span : HasWholeSpan f o.first o.count) (m : Matches o u) where
  abbrev w : View
  w = whole_view f o

  live : 0 < u.count
  live = let some_page = pow_pos (f.input - f.granule) in omega arith

  tagged : AreTagged o.words u.path
  tagged = all_map (IsOnPath f o.frames o.words (u ∷ []) u) (λ (x : Node). placed_at (tag o.words x.frame) ≡ x.position) u.path (λ x h. h.at.at) (r.paths 0 u refl).nodes

  purse_is : chain_of o.words o.head o.held ≡ u.purse
  purse_is =
      (λ i. chain_of o.words (sym m.purse.first_is i) (sym m.purse.held_is i))
      ∙ chain_back o.words u.purse (subst (λ (e : Option ℕ). Chained o.words e u.purse) m.purse.end (r.purses.chained 0 u refl))

  read : (u.pieces ≡ pieces_in f o.frames o.prepared o.words o.frames) × (u.tables ≡ tables_in o.levels o.prepared o.words o.frames) × (u.top ≡ root_level o.words) × (u.first ≡ 0)
  read =
      let a = whole_is_read f laws.layout laws.differ laws.agree o.frames o.levels o.words (u ∷ []) 0 u r refl whole in (
        a.0 ∙ ap (λ (g : Option ℕ). pieces_in f o.frames g o.words o.frames) m.prepared.is,
        a.1 ∙ ap (λ (g : Option ℕ). tables_in o.levels g o.words o.frames) m.prepared.is,
        a.2,
        a.3,
      )

  path_is : nodes_down o.words o.path o.level (root_level o.words + 1 - o.level) ≡ u.path
  path_is =
      let depth = m.path.depth in
      let count : root_level o.words + 1 - o.level ≡ length u.path = omega arith in
      ap (nodes_down o.words o.path o.level) count ∙ nodes_back o.words o.path o.level (root_level o.words + 1) u.path m.path.follows depth tagged

  prepared_is : prepared_at o.words o.prepared ≡ u.prepared
  prepared_is = ap (prepared_at o.words) (sym m.prepared.is) ∙ prepared_back o.words u.prepared (r.frames.at 0 u refl) m.prepared.plain

  pub shows : Shows u w
  unfolding whole_view
  shows = let sizes = r.sizes.live 0 u refl live in record {
    range = record { frames = sym sizes.0; levels = sym sizes.1; first = sym read.3; count = sym whole };
    book = record { pieces = sym read.0; tables = sym read.1; top = sym read.2 };
    purse = record { purse = purse_is; end = sym m.purse.end };
    path = path_is;
    prepared = prepared_is;
  }

  -- what is known of the tree is a table of it, or of the spine
  known_there : (p : Position) → IsAmong u.known p → IsAmong (known_in o.levels u.tables u.top) p
  known_there p a = ⊎_elim
      (λ (s : (is_spine o.levels p && nat_le p.level (root_level o.words)) ≡ true).
      let b : (is_spine o.levels p ≡ true) × (nat_le p.level (root_level o.words) ≡ true) = and_parts (is_spine o.levels p) (nat_le p.level (root_level o.words)) s in
      let up : p.level ≤ root_level o.words = leb-true p.level (root_level o.words) b.1 in
      let top = read.2 in
      known_spine o.levels u.tables u.top p b.0 (omega arith))
      (λ (t : nat_lt 0 (total (has_table p) (u ∷ [])) ≡ true).
      let some_one : 0 < total (has_table p) (u ∷ []) = ltb-true 0 (total (has_table p) (u ∷ [])) t in
      known_table o.levels u.tables u.top p (let h : 0 < places p u.tables = omega arith in h))
      (or_cases (is_spine o.levels p && nat_le p.level (root_level o.words)) (nat_lt 0 (total (has_table p) (u ∷ []))) (r.known 0 u refl p a).0)

  known_same : known_in o.levels u.tables u.top ≡ w.known
  unfolding whole_view
  known_same = λ i. known_in o.levels (read.1 i) (read.2 i)

  -- and a table of it, or one of the spine, is of the tree
  known_true : (p : Position) → IsAmong (known_in o.levels u.tables u.top) p →
      IsTrue (is_in_tree o.levels o.words (u ∷ []) p) × (IsTrue (is_spine o.levels p) ⊎ IsTrue (meets_span u p.base (end_of_table f p)))
  known_true p h = ⊎_elim
      (λ (a_table : IsAmong u.tables p). (
        or_right (is_spine o.levels p && nat_le p.level (root_level o.words)) _ (let some_one : 0 < places p u.tables = a_table in lt-ltb 0 (total (has_table p) (u ∷ [])) (omega arith)),
        inr (among_all (IsOwnTable f u) u.tables (r.books 0 u refl live).tables p a_table).meets,
      ))
      (λ (a_spine : IsTrue (is_spine o.levels p) × (p.level ≤ u.top)).
      let up = a_spine.1 in let top = read.2 in (
        or_left (is_spine o.levels p && nat_le p.level (root_level o.words)) _ (and_from (is_spine o.levels p) _ a_spine.0 (le-leb p.level (root_level o.words) (omega arith))),
        inl a_spine.0,
      ))
      (known_cases o.levels u.tables u.top p h)

  known_of_w : (p : Position) → IsAmong w.known p → IsTrue (is_in_tree o.levels o.words (u ∷ []) p) × (IsTrue (is_spine w.levels p) ⊎ IsTrue (meets_span w p.base (end_of_table f p)))
  known_of_w p h =
      let k = known_true p (subst (λ (ps : List Position). IsAmong ps p) (sym known_same) h) in (
        k.0,
        ⊎_elim (λ s. inl (subst (λ (l : ℕ). IsTrue (is_spine l p)) (sym (shown f o).levels_are) s))
            (λ s. inr (subst (λ (c : ℕ × ℕ). IsTrue (nat_lt p.base (c.0 + c.1) && nat_lt c.0 (end_of_table f p))) (λ i. (sym shows.range.first i, sym shows.range.count i)) s)) k.1,
      )

  pub agrees : Noted o u → Agrees u w
  unfolding whole_view
  agrees noted = record {
    same = shows;
    busy = λ x. (
      λ h. let a : (x < o.frames) × (tag o.words x ≢ 0) = busy_tag o.words o.frames x h in noted.busy x a.0 a.1,
      λ h. let lt = noted.within x h in tag_busy o.words o.frames x lt (r.busy 0 u refl whole x lt h),
    );
    known = λ p. (
      λ h. noted.known p (subst (λ (ps : List Position). IsAmong ps p) (sym known_same) h),
      λ h. subst (λ (ps : List Position). IsAmong ps p) known_same (known_there p h),
    );
  }

  pub owner : HasFramesBelow w o.taken_below → IsOwner f o
  owner taken =
      let depth = m.path.depth in record {
        lawful = views_note f o.frames o.levels o.words (u ∷ []) 0 u w r refl live (record {
          range = shows.range;
          book = shows.book;
          purse = shows.purse;
          prepared = shows.prepared;
          rest = [];
          path = sym shows.path ∙ sym (append-nil w.path);
          busy = λ all g lt h. (busy_tag o.words o.frames g (subst (λ (xs : List ℕ). IsIn xs g) (shown f o).busy_is h)).1;
          known = known_of_w;
        });
        span = span;
        first_is = ap (first_or None) purse_is ∙ m.purse.first_is;
        held_is = ap length purse_is ∙ m.purse.held_is;
        low = omega arith;
        levels_are = λ at low up. levels_back o.words o.path o.level (root_level o.words + 1) u.path m.path.follows depth tagged at low (omega arith);
        eight = m.path.eight;
        taken = taken;
      }

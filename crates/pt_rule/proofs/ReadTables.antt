-- The tables of a view of the whole space are read from the tags, its top from the root.
use Rattle.std.proofs.Common.{◌≡◌, ℕ, zero, suc, Bool, true, false, ◌<◌, List, [], ◌∷◌, sym, refl, ap, ◌∙◌, subst, arith, ⊎_elim}
use Rattle.std.specs.Prelude.{nat_lt, nat_le, ◌&&◌, not, Option, None, Some}
use Rattle.std.proofs.lemmas.Bool.{and_parts, and_from, or_cases, false≢true, ltb-true}
use mathlib.Core.Option.{some, some-injective, some-ne-none}
use mathlib.Core.Logic.{dite}
use native.Mathlib.Decide.{ℕ_discrete}
use lib.ListN.{get_elem?}
use Rattle.pt_model.specs.declared.position.Position.{Position}
use Rattle.pt_model.specs.Layout.{Layout}
use Rattle.pt_model.specs.Tables.{add_position, is_spine}
use Rattle.pt_model.specs.Words.{tag, placed_at, root_level}
use Rattle.pt_format.specs.Laws.{IsLayout}
use Rattle.pt_view.specs.declared.view.View.{View}
use Rattle.pt_view.specs.declared.view.Prepared.{Prepared}
use Rattle.pt_model.specs.Sets.{IsAmong, IsSorted}
use Rattle.pt_rule.specs.Totals.{total, has_table, is_prepared}
use Rattle.pt_rule.specs.Tags.{is_placed}
use Rattle.pt_rule.specs.Linked.{IsLinked, IsLinkedAt, is_in_tree}
use Rattle.pt_rule.specs.Lawful.{Lawful, IsOwnTable}
use Rattle.pt_rule.specs.WholeView.{is_frame, is_linked_in, is_table_in, prepared_frame, tables_in}
use Rattle.pt_model.proofs.Positions.{bit_false, false_bit, among_all, added_kept, added_new, added_cases, sorted_add, same_members}
use Rattle.pt_rule.proofs.OrderedPieces.{either_has}
use Rattle.pt_rule.proofs.TreeFacts.{table_there}

-- The positions that are read.
module _ (l : ℕ) (prepared : Option ℕ) (words : List ℕ) where
  tables_in_order : (m : ℕ) → IsSorted (tables_in l prepared words m)
  tables_in_order zero = tt
  tables_in_order (suc g) =
      either_has IsSorted (is_table_in l prepared words g) (add_position (tables_in l prepared words g) (placed_at (tag words g))) (tables_in l prepared words g)
      (λ e. sorted_add (tables_in l prepared words g) (placed_at (tag words g)) (tables_in_order g)) (λ e. tables_in_order g)

  -- a position that is read is that of a frame
  frame_of_table : (m : ℕ) (p : Position) → IsAmong (tables_in l prepared words m) p →
      (g : ℕ) × (g < m) × (is_table_in l prepared words g ≡ true) × (placed_at (tag words g) ≡ p)
  frame_of_table zero p a = absurd (omega arith)
  frame_of_table (suc g) p among =
      let older : IsAmong (tables_in l prepared words g) p → (h : ℕ) × (h < suc g) × (is_table_in l prepared words h ≡ true) × (placed_at (tag words h) ≡ p) =
      (λ a. let b = frame_of_table g p a in (b.0, (let less = b.1 in omega arith), b.2, b.3)) in
      either_has (λ ps. IsAmong ps p → (h : ℕ) × (h < suc g) × (is_table_in l prepared words h ≡ true) × (placed_at (tag words h) ≡ p))
      (is_table_in l prepared words g) (add_position (tables_in l prepared words g) (placed_at (tag words g))) (tables_in l prepared words g)
      (λ is a. ⊎_elim older (λ (e : p ≡ placed_at (tag words g)). (g, omega arith, is, sym e)) (added_cases (tables_in l prepared words g) (placed_at (tag words g)) p a))
      (λ none. older) among

  -- and each such frame's position is read
  table_of_frame : (m g : ℕ) → g < m → is_table_in l prepared words g ≡ true → IsAmong (tables_in l prepared words m) (placed_at (tag words g))
  table_of_frame zero g less is = absurd (omega arith)
  table_of_frame (suc h) g less is =
      let q : Position = placed_at (tag words g) in
      either_has (λ ps. IsAmong ps q) (is_table_in l prepared words h) (add_position (tables_in l prepared words h) (placed_at (tag words h))) (tables_in l prepared words h)
      (λ e. dite (ℕ_discrete g h)
      (λ same. subst (λ (z : ℕ). IsAmong (add_position (tables_in l prepared words h) (placed_at (tag words h))) (placed_at (tag words z))) (sym same) (added_new (tables_in l prepared words h) (placed_at (tag words h))))
      (λ ne. added_kept (tables_in l prepared words h) (placed_at (tag words h)) q (table_of_frame h g (omega arith) is)))
      (λ none. dite (ℕ_discrete g h)
      (λ same. absurd (false≢true (sym none ∙ ap (is_table_in l prepared words) (sym same) ∙ is)))
      (λ ne. table_of_frame h g (omega arith) is))

not_true : (b : Bool) → not b ≡ true → b ≡ false
not_true true e = absurd (false≢true e)
not_true false e = refl

not_false : (b : Bool) → b ≡ false → not b ≡ true
not_false b e = ap not e

same_frame : (g : ℕ) (x : Option Prepared) → is_frame g (prepared_frame x) ≡ is_prepared g x
same_frame g None = refl
same_frame g (Some x) = refl

module _ (f : Layout) (n l : ℕ) (words : List ℕ) (v : View) (good : IsLayout f) (r : Lawful f n l words (v ∷ [])) (live : 0 < v.count) where
  abbrev prepared : Option ℕ
  prepared = prepared_frame v.prepared

  -- the frames that are read as linked are those that are
  pub is_linked : (g : ℕ) → g < n → is_linked_in prepared words g ≡ true → IsLinked n words (v ∷ []) g
  is_linked g less e =
      let both : (is_placed (tag words g) ≡ true) × (not (is_frame g prepared) ≡ true) = and_parts (is_placed (tag words g)) _ e in
      let none = bit_false (is_prepared g v.prepared) (sym (same_frame g v.prepared) ∙ not_true (is_frame g prepared) both.1) in
      record { within = less; placed = both.0; unprepared = omega arith }

  pub reads_linked : (g : ℕ) → IsLinked n words (v ∷ []) g → is_linked_in prepared words g ≡ true
  reads_linked g a =
      let none : is_prepared g v.prepared ≡ false = false_bit (is_prepared g v.prepared) (let z = a.unprepared in omega arith) in
      and_from (is_placed (tag words g)) _ a.placed (not_false (is_frame g prepared) (same_frame g v.prepared ∙ none))

  levels_are : v.levels ≡ l
  levels_are = (r.sizes.live 0 v refl live).1

  is_read : (p : Position) → IsAmong v.tables p → IsAmong (tables_in l prepared words n) p
  is_read p m =
      let a : (g : ℕ) × IsLinkedAt n words (v ∷ []) g p = r.positions.all p (table_there f n l words (v ∷ []) good r 0 v refl p m) in
      let off : is_spine v.levels p ≡ false = (among_all (IsOwnTable f v) v.tables (r.books 0 v refl live).tables p m).off_spine in
      let off_here : is_spine l (placed_at (tag words a.0)) ≡ false = (λ i. is_spine (sym levels_are i) (a.1.at i)) ∙ off in
      subst (IsAmong (tables_in l prepared words n)) a.1.at
      (table_of_frame l prepared words n a.0 a.1.is_linked.within
      (and_from (is_linked_in prepared words a.0) _ (reads_linked a.0 a.1.is_linked) (not_false (is_spine l (placed_at (tag words a.0))) off_here)))

  is_own : (p : Position) → IsAmong (tables_in l prepared words n) p → IsAmong v.tables p
  is_own p m =
      let a : (g : ℕ) × (g < n) × (is_table_in l prepared words g ≡ true) × (placed_at (tag words g) ≡ p) = frame_of_table l prepared words n p m in
      let q : Position = placed_at (tag words a.0) in
      let both : (is_linked_in prepared words a.0 ≡ true) × (not (is_spine l q) ≡ true) = and_parts (is_linked_in prepared words a.0) _ a.2 in
      let there : is_in_tree l words (v ∷ []) q ≡ true = r.positions.in_tree a.0 (is_linked a.0 a.1 both.0) in
      subst (IsAmong v.tables) a.3
      (⊎_elim
      (λ (s : (is_spine l q && nat_le q.level (root_level words)) ≡ true).
      let c : (is_spine l q ≡ true) × (nat_le q.level (root_level words) ≡ true) = and_parts (is_spine l q) _ s in
      absurd (false≢true (sym (not_true (is_spine l q) both.1) ∙ c.0)))
      (λ (s : nat_lt 0 (total (has_table q) (v ∷ [])) ≡ true). let some_one = ltb-true 0 (total (has_table q) (v ∷ [])) s in omega arith)
      (or_cases (is_spine l q && nat_le q.level (root_level words)) _ there))

  -- the tables are those that are read
  pub tables_read : v.tables ≡ tables_in l prepared words n
  tables_read = same_members v.tables (tables_in l prepared words n) (r.books 0 v refl live).in_order (tables_in_order l prepared words n) is_read is_own

  -- the top is the root's level
  pub top_read : v.top ≡ root_level words
  top_read = top r.root.reached
    where
      top : ((j : ℕ) × (u : View) × (get_elem? (v ∷ []) j ≡ some u) × (0 < u.count) × (u.top ≡ root_level words)) → v.top ≡ root_level words
      top (zero, u, e, alive, is) = ap (λ (w : View). w.top) (some-injective v u e) ∙ is
      top (suc j, u, e, alive, is) = absurd (some-ne-none u (sym e))

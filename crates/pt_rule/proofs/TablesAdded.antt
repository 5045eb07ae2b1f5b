-- Positions of the spine, and a position added to the tables of a book unless it is of the spine.
use Rattle.std.proofs.Common.{Bool, ◌≡◌, ℕ, ◌⊎◌, ◌≤◌, List, refl, ap, sym, subst, true, false, inl, ⊎_elim}
use Rattle.std.specs.Prelude.{IsTrue, nat_le, ◌==◌, if◌then◌else◌}
use Rattle.std.specs.List.{AllByRecursion}
use Rattle.std.proofs.lemmas.Bool.{and_parts, cases_Bool, eqb-true, leb-true}
use Rattle.pt_model.specs.declared.position.Position.{Position}
use Rattle.pt_model.specs.Tables.{add_position, is_spine, spine_position, starting_top}
use Rattle.pt_model.proofs.Positions.{added_kept, added_new, added_cases, all_added, same_position, sorted_add}
use Rattle.pt_model.specs.Sets.{IsAmong, IsSorted}
use Rattle.pt_view.specs.Calls.{with_table}

-- A position that is added unless it is of the spine.
module _ (levels : ℕ) (ps : List Position) (q : Position) where
  on_spine : is_spine levels q ≡ true → with_table levels ps q ≡ ps
  on_spine e = ap (λ (b : Bool). if b then ps else add_position ps q) e

  pub off_spine_adds : is_spine levels q ≡ false → with_table levels ps q ≡ add_position ps q
  off_spine_adds e = ap (λ (b : Bool). if b then ps else add_position ps q) e

  -- what holds of the list, and of the list with the position
  pub with_either : (P : List Position → Type 0) → P ps → (is_spine levels q ≡ false → P (add_position ps q)) → P (with_table levels ps q)
  with_either P old new = ⊎_elim (λ (e : is_spine levels q ≡ true). subst P (sym (on_spine e)) old) (λ (e : is_spine levels q ≡ false). subst P (sym (off_spine_adds e)) (new e))
      (cases_Bool (is_spine levels q))

  pub with_kept : (p : Position) → IsAmong ps p → IsAmong (with_table levels ps q) p
  with_kept p m = with_either (λ xs. IsAmong xs p) m (λ e. added_kept ps q p m)

  pub with_cases : (p : Position) → IsAmong (with_table levels ps q) p → IsAmong ps p ⊎ (p ≡ q)
  with_cases p = with_either (λ xs. IsAmong xs p → IsAmong ps p ⊎ (p ≡ q)) (λ m. inl m) (λ e m. added_cases ps q p m)

  pub with_new : is_spine levels q ≡ false → IsAmong (with_table levels ps q) q
  with_new e = subst (λ xs. IsAmong xs q) (sym (off_spine_adds e)) (added_new ps q)

  pub with_all : (P : Position → Type 0) → AllByRecursion P ps → (is_spine levels q ≡ false → P q) → AllByRecursion P (with_table levels ps q)
  with_all P all new = with_either (AllByRecursion P) all (λ e. all_added P ps q all (new e))

  pub with_order : IsSorted ps → IsSorted (with_table levels ps q)
  with_order s = with_either IsSorted s (λ e. sorted_add ps q s)

-- a position of the spine is one of its levels'
pub spine_back : (levels : ℕ) (p : Position) → IsTrue (is_spine levels p) → (starting_top levels ≤ p.level) × (p ≡ spine_position p.level)
spine_back levels p s =
    let b : (nat_le (starting_top levels) p.level ≡ true) × ((p.base == 0) ≡ true) = and_parts (nat_le (starting_top levels) p.level) _ s in
    (leb-true (starting_top levels) p.level b.0, same_position p (spine_position p.level) refl (eqb-true p.base 0 b.1))

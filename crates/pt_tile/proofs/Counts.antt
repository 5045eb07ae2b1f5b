-- How many positions of one level a list has, and what is added to it.
use Rattle.std.proofs.Common.{◌≡◌, ℕ, zero, suc, ◌+◌, ◌<◌, ◌≤◌, ◌≢◌, ◌⊎◌, List, [], ◌∷◌, ◌++◌, refl, ap, sym, subst, ◌∙◌, arith, true, false, inl, inr}
use Rattle.std.specs.Prelude.{◌==◌, map}
use Rattle.std.specs.List.{range_with_len}
use Rattle.std.proofs.lemmas.Bool.{cases_eq, eq-eqb, ne_eqb}
use Rattle.pt_model.specs.declared.position.Position.{Position}
use Rattle.pt_model.specs.Tables.{add_position, add_positions}
use Rattle.pt_model.specs.Sets.{IsAmong, IsSorted}
use Rattle.pt_tile.specs.Counting.{at_level}
use Rattle.pt_model.proofs.Positions.{before_order, add_after, add_before, add_there, add_again, sorted_add, added_cases, added_kept, among_more, among_first}

pub at_more : (l : ℕ) (q : Position) (qs : List Position) → q.level ≡ l → at_level l (q ∷ qs) ≡ at_level l qs + 1
at_more l q qs e = let t : (q.level == l) ≡ true = eq-eqb q.level l e in rw t (omega arith)

pub at_same : (l : ℕ) (q : Position) (qs : List Position) → (q.level ≡ l → ⊥) → at_level l (q ∷ qs) ≡ at_level l qs
at_same l q qs e = let t : (q.level == l) ≡ false = ne_eqb q.level l e in rw t (omega arith)

at_head : (l : ℕ) (q : Position) (xs ys : List Position) (n : ℕ) → at_level l xs ≡ at_level l ys + n →
    at_level l (q ∷ xs) ≡ at_level l (q ∷ ys) + n
at_head l q xs ys n e = elim (cases_eq q.level l) [
  | inl here ↦ omega (arith, at_more l q xs here, at_more l q ys here, e)
  | inr other ↦ omega (arith, at_same l q xs other, at_same l q ys other, e)
]

pub at_new : (l : ℕ) (ps : List Position) (q : Position) → q.level ≡ l → (IsAmong ps q → ⊥) →
    at_level l (add_position ps q) ≡ at_level l ps + 1
at_new l [] q e new = at_more l q [] e
at_new l (r ∷ rs) q e new =
    elim (before_order r q) [
      | inl before ↦ ap (at_level l) (add_after r rs q before) ∙ at_head l r (add_position rs q) rs 1 (at_new l rs q e (λ m. new (among_more q r rs m)))
      | inr other ↦ elim other [
        | inl same ↦ absurd (new (among_first q r rs (sym same)))
        | inr after ↦ ap (at_level l) (add_before r rs q after) ∙ at_more l q (r ∷ rs) e
      ]
    ]

pub at_other : (l : ℕ) (ps : List Position) (q : Position) → (q.level ≡ l → ⊥) →
    at_level l (add_position ps q) ≡ at_level l ps
at_other l [] q e = at_same l q [] e
at_other l (r ∷ rs) q e =
    elim (before_order r q) [
      | inl before ↦
          let deeper : at_level l (add_position rs q) ≡ at_level l rs + 0 = omega (arith, at_other l rs q e) in
          ap (at_level l) (add_after r rs q before) ∙ omega (arith, at_head l r (add_position rs q) rs 0 deeper)
      | inr other ↦ elim other [
        | inl same ↦ ap (at_level l) (add_there r rs q same)
        | inr after ↦ ap (at_level l) (add_before r rs q after) ∙ at_same l q (r ∷ rs) e
      ]
    ]

-- one position for each of a run of levels

pub levels_other : (l : ℕ) (h : ℕ → Position) → ((k : ℕ) → (h k).level ≡ k) → (m low : ℕ) (ps : List Position) →
    (l < low) ⊎ (low + m ≤ l) →
    at_level l (add_positions ps (map h (range_with_len low m))) ≡ at_level l ps
levels_other l h level_is zero low ps out = refl
levels_other l h level_is (suc m) low ps out =
    let apart : (h low).level ≢ l = λ e. elim out [ inl b ↦ omega (arith, level_is low) | inr a ↦ omega (arith, level_is low) ] in
    levels_other l h level_is m (low + 1) (add_position ps (h low)) (elim out [ inl b ↦ inl (omega arith) | inr a ↦ inr (omega arith) ])
    ∙ at_other l ps (h low) apart

pub levels_new : (l : ℕ) (h : ℕ → Position) → ((k : ℕ) → (h k).level ≡ k) → (m low : ℕ) (ps : List Position) →
    low ≤ l → l < low + m → (IsAmong ps (h l) → ⊥) →
    at_level l (add_positions ps (map h (range_with_len low m))) ≡ at_level l ps + 1
levels_new l h level_is zero low ps from to new = absurd (omega arith)
levels_new l h level_is (suc m) low ps from to new =
    elim (cases_eq low l) [
      | inl here ↦
          levels_other l h level_is m (low + 1) (add_position ps (h low)) (inl (omega arith))
          ∙ at_new l ps (h low) (level_is low ∙ here) (λ o. new (subst (λ (k : ℕ). IsAmong ps (h k)) here o))
      | inr other ↦
          levels_new l h level_is m (low + 1) (add_position ps (h low)) (omega arith) (omega arith)
          (λ o. elim (added_cases ps (h low) (h l) o) [
            | inl old ↦ new old
            | inr e ↦ other (sym (level_is low) ∙ ap (λ (p : Position). p.level) (sym e) ∙ level_is l)
          ])
          ∙ ap (λ (n : ℕ). n + 1) (at_other l ps (h low) (λ e. other (sym (level_is low) ∙ e)))
    ]

pub levels_again : (l : ℕ) (h : ℕ → Position) → ((k : ℕ) → (h k).level ≡ k) → (m low : ℕ) (ps : List Position) →
    IsSorted ps → IsAmong ps (h l) →
    at_level l (add_positions ps (map h (range_with_len low m))) ≡ at_level l ps
levels_again l h level_is zero low ps s there = refl
levels_again l h level_is (suc m) low ps s there =
    levels_again l h level_is m (low + 1) (add_position ps (h low)) (sorted_add ps (h low) s) (added_kept ps (h low) (h l) there)
    ∙ elim (cases_eq low l) [
      | inl here ↦ ap (at_level l) (add_again ps (h low) s (subst (λ (k : ℕ). IsAmong ps (h k)) (sym here) there))
      | inr other ↦ at_other l ps (h low) (λ e. other (sym (level_is low) ∙ e))
    ]

-- lists added one after the other
pub adds_append : (xs ys ps : List Position) → add_positions ps (xs ++ ys) ≡ add_positions (add_positions ps xs) ys
adds_append [] ys ps = refl
adds_append (x ∷ xs) ys ps = adds_append xs ys (add_position ps x)

-- The sizes of AMD tables, by level.
use Rattle.std.proofs.Common.{◌≡◌, ℕ, zero, suc, ◌+◌, ◌<◌, ◌≤◌, inl, inr, arith, refl, true, false}
use Rattle.std.specs.Prelude.{IsTrue, ◌==◌}
use Rattle.std.specs.List.{list_any, range_with_len}
use Rattle.std.proofs.lemmas.Bool.{cases_eq, eq-eqb, ne_eqb}
use Rattle.pt_model.specs.Layout.{is_size, level_of_size}
use Rattle.fmt_amdv1.specs.AmdWords.{IsSizeOf, layout}

-- the numbers of a range
in_range : (first count k : ℕ) → list_any (λ j. j == k) (range_with_len first count) ≡ true → (first ≤ k) × (k < first + count)
in_range first zero k e = absurd (let w : ⊥ = cc in w)
in_range first (suc n) k e = elim (cases_eq first k) [
  | inl same ↦ (omega arith, omega arith)
  | inr other ↦
      let no : (first == k) ≡ false = ne_eqb _ _ other in
      let rest = in_range (first + 1) n k (rw no at e) in
      (omega (arith, rest.0), omega (arith, rest.1))
]

of_range : (first count k : ℕ) → first ≤ k → k < first + count → list_any (λ j. j == k) (range_with_len first count) ≡ true
of_range first zero k from to = absurd (omega arith)
of_range first (suc n) k from to = elim (cases_eq first k) [
  | inl same ↦ (let yes : (first == k) ≡ true = eq-eqb _ _ same in rw yes refl)
  | inr other ↦
      let no : (first == k) ≡ false = ne_eqb _ _ other in
      rw no (of_range (first + 1) n k (omega arith) (omega arith))
]

pub size_of : (level log2 : ℕ) → IsTrue (is_size layout log2) → level_of_size layout log2 ≡ level → IsSizeOf level log2
size_of level log2 size at =
    let few = (in_range 0 27 log2 size).1 in
    record { low_level = omega arith; from = omega arith; to = omega arith }

pub of_size : (level log2 : ℕ) → IsSizeOf level log2 → IsTrue (is_size layout log2) × (level_of_size layout log2 ≡ level)
of_size level log2 s =
    let low = s.low_level in let from = s.from in let to = s.to in
    (of_range 0 27 log2 (omega arith) (omega arith), omega arith)

-- The positions of a path added to the tables, positions of a list that pass a test, and those of a run of levels.
use Rattle.std.proofs.Common.{◌≡◌, ℕ, zero, suc, Bool, ◌+◌, ◌-◌, ◌≤◌, ◌<◌, List, ◌∷◌, refl, arith, true, false}
use Rattle.std.specs.Prelude.{filter, map}
use Rattle.std.specs.List.{AllByRecursion, range_with_len}
use Rattle.pt_model.specs.declared.position.Position.{Position}
use Rattle.pt_model.specs.Tables.{levels_between}

-- Positions added to a list.

-- Positions of a list in order that are added again change nothing.

-- Positions that pass a test.

filter_in : (t : Position → Bool) (x : Position) (xs : List Position) → t x ≡ true → filter t (x ∷ xs) ≡ x ∷ filter t xs
filter_in t x xs e = rw e refl

filter_out : (t : Position → Bool) (x : Position) (xs : List Position) → t x ≡ false → filter t (x ∷ xs) ≡ filter t xs
filter_out t x xs e = rw e refl

-- Positions of a run of levels.

all_range : (P : Position → Type 0) (h : ℕ → Position) (count low : ℕ) → ((k : ℕ) → low ≤ k → k < low + count → P (h k)) →
    AllByRecursion P (map h (range_with_len low count))
all_range P h zero low each = tt
all_range P h (suc count) low each = (each low (omega arith) (omega arith), all_range P h count (low + 1) (λ k from to. each k (omega arith) (omega arith)))

pub all_levels : (P : Position → Type 0) (h : ℕ → Position) (low high : ℕ) → ((k : ℕ) → low ≤ k → k ≤ high → P (h k)) →
    AllByRecursion P (map h (levels_between low high))
all_levels P h low high each = all_range P h (high + 1 - low) low (λ k from to. each k from (omega arith))

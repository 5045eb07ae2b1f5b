-- The sizes of a format as a mask, and the sizes of larger blocks at a place.
use Rattle.std.specs.Prelude.{◌≡◌, ℕ, ◌%◌, ◌^◌, ◌<◌, ◌≤◌, ◌↔◌, IsTrue, IsBitSet, Option, Some, None}
use Rattle.pt_model.specs.Layout.{Layout, is_size}

-- bit k of a mask is set where the format has blocks of 2 ^ k pages
abbrev pub HasAllSizes : Layout → ℕ → Type 0
HasAllSizes f mask = (k : ℕ) → IsBitSet mask k ↔ IsTrue (is_size f k)

-- the least number from `least` on whose bit is set in a mask, if there is one
abbrev pub IsLeastFrom : (mask least : ℕ) → Option ℕ → Type 0
IsLeastFrom mask least None = (k : ℕ) → IsBitSet mask k → k < least
IsLeastFrom mask least (Some size) =
    IsBitSet mask size × (least ≤ size) × (size < 64) × ((k : ℕ) → IsBitSet mask k → least ≤ k → size ≤ k)

-- the least size from 2 ^ log2 pages on by which blocks can take up a part of a range, if there is one: it is a size of the
-- format, and the range and its output lie alike in blocks of that size
abbrev pub IsLarger : Layout → (log2 first out : ℕ) → Option ℕ → Type 0
IsLarger f log2 first out None = (k : ℕ) → IsTrue (is_size f k) → first % 2 ^ k ≡ out % 2 ^ k → k < log2
IsLarger f log2 first out (Some size) =
    IsTrue (is_size f size) × (log2 ≤ size) × (first % 2 ^ size ≡ out % 2 ^ size)
    × ((k : ℕ) → IsTrue (is_size f k) → log2 ≤ k → size ≤ k)

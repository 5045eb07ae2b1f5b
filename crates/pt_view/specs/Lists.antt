-- Lists of frames: how often one stands there, and as sets.
use Rattle.std.specs.Prelude.{◌≡◌, ◌⊎◌, ◌↔◌, ℕ, ◌+◌, ◌<◌, ◌==◌, List, [], ◌∷◌}
use Rattle.pt_model.specs.Sets.{one_if}

-- how often a number stands in a list
abbrev pub times : ℕ → List ℕ → ℕ
times x [] = 0
times x (y ∷ ys) = one_if (y == x) + times x ys

abbrev pub IsIn : List ℕ → ℕ → Type 0
IsIn xs x = 0 < times x xs

-- the same frames, and one more
abbrev pub SameFrames : (old new : List ℕ) → Type 0
SameFrames old new = (x : ℕ) → IsIn new x ↔ IsIn old x

abbrev pub AddsFrame : (old new : List ℕ) → ℕ → Type 0
AddsFrame old new frame = (x : ℕ) → IsIn new x ↔ ((x ≡ frame) ⊎ IsIn old x)

-- the same frames, but for those that are gone
abbrev pub DropsFrames : (old new gone : List ℕ) → Type 0
DropsFrames old new gone = (x : ℕ) → IsIn new x ↔ ((¬ IsIn gone x) × IsIn old x)

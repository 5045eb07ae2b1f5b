-- Lists of positions as sets: how often one stands there, membership, and order.
use Rattle.std.specs.Prelude.{◌≡◌, ◌⊎◌, ◌↔◌, ℕ, ◌+◌, ◌<◌, Bool, false, not, filter, List, [], ◌∷◌, if◌then◌else◌, IsTrue, ⊤}
use Rattle.pt_model.specs.declared.position.Position.{Position}
use Rattle.pt_model.specs.Tables.{is_before, is_same}

-- 1 where a test passes
abbrev pub one_if : Bool → ℕ
one_if b = if b then 1 else 0

-- how often a position stands in a list
abbrev pub places : Position → List Position → ℕ
places p [] = 0
places p (q ∷ qs) = one_if (is_same p q) + places p qs

abbrev pub IsAmong : List Position → Position → Type 0
IsAmong ps p = 0 < places p ps

-- each position is before all later ones, so that none is there twice
abbrev pub IsSorted : List Position → Type 0
IsSorted [] = ⊤
IsSorted (q ∷ qs) = ((p : Position) → IsAmong qs p → IsTrue (is_before q p)) × IsSorted qs

-- the same positions, and those of a kind more
abbrev pub SamePositions : (old new : List Position) → Type 0
SamePositions old new = (p : Position) → IsAmong new p ↔ IsAmong old p

abbrev pub AddsPositions : (old new : List Position) → (Position → Type 0) → Type 0
AddsPositions old new IsOne = (p : Position) → IsAmong new p ↔ (IsOne p ⊎ IsAmong old p)

-- a list without a position, and the same positions but for one
abbrev pub without_position : Position → List Position → List Position
without_position p ps = filter (λ q. not (is_same p q)) ps

abbrev pub RemovesPosition : (old new : List Position) → Position → Type 0
RemovesPosition old new p = (q : Position) → IsAmong new q ↔ ((is_same p q ≡ false) × IsAmong old q)

-- What a device tells of its bytes, and how many it has given. `None` tells nothing, and then a
-- clause on the bytes says nothing.
use Rattle.std.specs.Prelude.{◌≡◌, ℕ, ◌+◌, ◌-◌, ◌^◌, ◌<◌, min, List, [], length, take, ⊤, MatchResult, Result, Option, None, Some}
use Rattle.std.specs.Io.KnownBytes.{Consumes, Appends}

-- `Ok(n)` raises the count of the bytes given by n, or it stands at its last value; an error leaves it
abbrev pub CountsGiven : {E : Type 0} → ℕ → ℕ → Result ℕ E → Type 0
CountsGiven before now result = MatchResult result (λ n. now ≡ min (before + n) (2 ^ 64 - 1)) (λ _. now ≡ before)

-- these are all the bytes that were left, and none is left now
abbrev pub ConsumesAll : Option (List ℕ) → Option (List ℕ) → List ℕ → Type 0
ConsumesAll None new bytes = ⊤
ConsumesAll (Some xs) new bytes = (bytes ≡ xs) × (new ≡ Some [])

-- what is left now is the end of what was left
abbrev pub LeavesEnd : Option (List ℕ) → Option (List ℕ) → Type 0
LeavesEnd old new = (bytes : List ℕ) × Consumes old new bytes

-- of these bytes some from the front were appended, but not all
abbrev pub AppendsPart : Option (List ℕ) → Option (List ℕ) → List ℕ → Type 0
AppendsPart old new bytes = (n : ℕ) × (n < length bytes) × Appends old new (take n bytes)

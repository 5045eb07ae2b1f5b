-- The last frame of a purse, and the frame that a tag names.
use Rattle.std.specs.Prelude.{ℕ, ◌-◌, ◌/◌, ◌==◌, List, [], ◌∷◌, Option, None, Some, if◌then◌else◌}

-- the last frame of a list
abbrev pub last_of : List ℕ → Option ℕ
last_of [] = None
last_of (x ∷ []) = Some x
last_of (x ∷ y ∷ xs) = last_of (y ∷ xs)

-- the frame that a held frame's tag names
abbrev pub named_in : (word : ℕ) → Option ℕ
named_in word = if word == 1 then None else Some (word / 4 - 1)

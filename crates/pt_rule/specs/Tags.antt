-- The tags of frames: a frame is free, held in a purse, or placed at a position.
use Rattle.std.specs.Prelude.{◌≡◌, ℕ, ◌+◌, ◌*◌, ◌%◌, ◌<◌, ◌==◌, Bool, List, [], ◌∷◌, Option, None, Some}
use Rattle.pt_model.specs.declared.position.Position.{Position}
use Rattle.pt_model.specs.Layout.{Layout}
use Rattle.pt_model.specs.Tables.{IsPosition}
use Rattle.pt_model.specs.Words.{tag, placed_word}

-- the tag of a held frame, by the frame that comes next in its purse
abbrev pub held_word : Option ℕ → ℕ
held_word None = 1
held_word (Some next) = 1 + 4 * (next + 1)

abbrev pub is_held : (word : ℕ) → Bool
is_held word = word % 4 == 1

abbrev pub is_placed : (word : ℕ) → Bool
is_placed word = word % 4 == 2

-- what a tag may be
pub data IsTag (f : Layout) (word : ℕ) : Type 0 where
  free : word ≡ 0 → IsTag f word
  held : (next : Option ℕ) → word ≡ held_word next → IsTag f word
  placed : (p : Position) → IsPosition f p → word ≡ placed_word p → IsTag f word

-- the frame that comes first, or the end mark
abbrev pub first_or : Option ℕ → List ℕ → Option ℕ
first_or end [] = end
first_or end (frame ∷ frames) = Some frame

-- an end mark is a frame, or none
abbrev pub IsEnd : (n : ℕ) → Option ℕ → Type 0
IsEnd n None = Unit {0}
IsEnd n (Some frame) = frame < n

-- each frame's tag names the next one, and the last one's the end mark
abbrev pub Chained : (words : List ℕ) → (end : Option ℕ) → List ℕ → Type 0
Chained words end [] = Unit {0}
Chained words end (frame ∷ frames) = (tag words frame ≡ held_word (first_or end frames)) × Chained words end frames

-- The order in which the entries of an image are visited: those of a table by index, and after a pointer the entries of the table to
-- which it points. It is a list of any image, good or bad: a table is visited as often as entries point to it.
use Rattle.std.specs.Prelude.{ℕ, zero, suc, ◌+◌, ◌*◌, ◌^◌, ◌==◌, if◌then◌else◌, List, [], ◌∷◌, flat_map, Option, None, Some}
use Rattle.std.specs.List.{range_with_len}
use Rattle.pt_model.specs.declared.position.Position.{Position}
use Rattle.pt_model.specs.Layout.{Layout, pages_of_entry}
use Rattle.pt_model.specs.Words.{frame_address}
use Rattle.pt_image.specs.Bytes.{entry_at}

-- an entry of the table in a frame, at a position of the tree
pub record Visit : Type 0 where
  pub frame : ℕ
  pub position : Position
  pub number : ℕ

-- the frame below n to which a word of a table points; in a table of level 0 no word does
abbrev pub pointed : Layout → (level n word : ℕ) → Option ℕ
pointed f zero n word = None
pointed f (suc level) zero word = None
pointed f (suc level) (suc n) word = if f.pointer (suc level) (frame_address f n) == word then Some n else pointed f (suc level) n word

-- the entries of the table in a frame, if there is one
abbrev pub under : (table : ℕ → List Visit) → Option ℕ → List Visit
under table None = []
under table (Some frame) = table frame

-- an entry, and after it those of the table to which it points; `table` gives the entries of one by its frame and first page
abbrev pub with_table : Layout → (n : ℕ) → (image : List ℕ) → (table : ℕ → ℕ → List Visit) → (level frame base number : ℕ) → List Visit
with_table f n image table level frame base number =
    record { frame = frame; position = record { level = level; base = base }; number = number }
    ∷ under (λ child. table child (base + number * pages_of_entry f level)) (pointed f level n (entry_at f image frame number))

-- so many entries of the table in a frame, from entry `number` on, each with those of its table
abbrev pub visits : Layout → (n : ℕ) → (image : List ℕ) → (level frame base number count : ℕ) → List Visit
visits f n image zero frame base number count =
    flat_map (with_table f n image (λ child first. []) 0 frame base) (range_with_len number count)
visits f n image (suc level) frame base number count =
    flat_map (with_table f n image (λ child first. visits f n image level child first 0 (2 ^ f.index)) (suc level) frame base) (range_with_len number count)

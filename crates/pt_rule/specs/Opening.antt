-- A new space: its words, and the one view of it.
use Rattle.std.specs.Prelude.{◌≡◌, ℕ, zero, suc, ◌+◌, ◌<◌, ◌≤◌, ◌^◌, List, [], ◌∷◌, length, None, Some, slice_index}
use Rattle.pt_model.specs.Layout.{Layout, input_pages}
use Rattle.pt_model.specs.Tables.{spine_position, starting_top}
use Rattle.pt_model.specs.Words.{word_count, root_word, tag, placed_word, entry_of}
use Rattle.pt_view.specs.declared.view.View.{View}
use Rattle.pt_view.specs.Views.{spent}
use Rattle.pt_rule.specs.Tags.{held_word}

-- so many numbers from one on
abbrev pub counting : (from count : ℕ) → List ℕ
counting from zero = []
counting from (suc count) = from ∷ counting (from + 1) count

-- the frames 1 to `hold` are in the purse, and nothing is mapped
abbrev pub opening_view : Layout → (n l hold : ℕ) → View
opening_view f n l hold = record spent { frames = n; levels = l; count = input_pages f; top = starting_top l; purse = counting 1 hold }

-- frame 0 is the root's table, the frames of the purse are chained, the others are free, and all entries are zero
pub record IsNew (f : Layout) (n l hold : ℕ) (words : List ℕ) : Type 0 where
  pub long : length words ≡ word_count f n
  pub root : slice_index words 0 ≡ root_word 0 (starting_top l)
  pub top : tag words 0 ≡ placed_word (spine_position (starting_top l))
  pub held : (frame : ℕ) → 1 ≤ frame → frame < hold → tag words frame ≡ held_word (Some (frame + 1))
  pub last : 1 ≤ hold → tag words hold ≡ held_word None
  pub free : (frame : ℕ) → hold < frame → frame < n → tag words frame ≡ 0
  pub cleared : (frame number : ℕ) → frame < n → number < 2 ^ f.index → entry_of f n words frame number ≡ 0

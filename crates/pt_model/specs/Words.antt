-- A space as a list of words: the root, the tags of the frames, and the entries of the frames. This is the project's
-- own; the words of the entries alone are a manual's. A frame's tag is 0 where the frame is free.
use Rattle.std.specs.Prelude.{◌≡◌, ℕ, ◌+◌, ◌-◌, ◌*◌, ◌/◌, ◌%◌, ◌^◌, ◌≤◌, List, length, slice_index}
use Rattle.pt_model.specs.Layout.{Layout}
use Rattle.pt_model.specs.declared.position.Position.{Position}

-- the words of a space of n frames
abbrev pub word_count : Layout → (n : ℕ) → ℕ
word_count f n = 1 + n + n * 2 ^ f.index

-- the frames of so many words, where tables have 2 ^ index entries: each frame has a tag besides
abbrev pub frames_of : (index count : ℕ) → ℕ
frames_of index count = (count - 1) / (2 ^ index + 1)

abbrev pub frames_in : Layout → List ℕ → ℕ
frames_in f words = frames_of f.index (length words)

-- so many words are a space with at least one frame
pub record IsSpaceLength (index count : ℕ) : Type 0 where
  pub whole : count ≡ 1 + frames_of index count * (2 ^ index + 1)
  pub some : 1 ≤ frames_of index count

abbrev pub IsSpace : Layout → List ℕ → Type 0
IsSpace f words = IsSpaceLength f.index (length words)

-- Word 0 is the root: a frame and its level.
abbrev pub root_word : (frame level : ℕ) → ℕ
root_word frame level = frame * 8 + level

abbrev pub root_frame : List ℕ → ℕ
root_frame words = slice_index words 0 / 8

abbrev pub root_level : List ℕ → ℕ
root_level words = slice_index words 0 % 8

-- Word 1 + f is the tag of frame f.
abbrev pub tag : List ℕ → ℕ → ℕ
tag words frame = slice_index words (1 + frame)

-- the tag of a frame that is placed as the table at a position
abbrev pub placed_word : Position → ℕ
placed_word p = 2 + 4 * p.level + 32 * p.base

abbrev pub placed_at : ℕ → Position
placed_at word = record { level = word / 4 % 8; base = word / 32 }

-- The entries of frame f begin at word 1 + n + f * 2 ^ index.
abbrev pub place_in : (index n frame number : ℕ) → ℕ
place_in index n frame number = 1 + n + frame * 2 ^ index + number

abbrev pub entry_place : Layout → (n frame number : ℕ) → ℕ
entry_place f n frame number = place_in f.index n frame number

abbrev pub entry_in : (index : ℕ) → List ℕ → (frame number : ℕ) → ℕ
entry_in index words frame number = slice_index words (place_in index (frames_of index (length words)) frame number)

abbrev pub entry_of : Layout → (n : ℕ) → List ℕ → (frame number : ℕ) → ℕ
entry_of f n words frame number = slice_index words (entry_place f n frame number)

abbrev pub entry : Layout → List ℕ → (frame number : ℕ) → ℕ
entry f words frame number = entry_of f (frames_in f words) words frame number

-- the most frames of a space: 2 ^ 27 bytes of tables
abbrev pub frame_limit : Layout → ℕ
frame_limit f = 2 ^ (27 - f.granule)

-- the byte at which a frame begins, and the frame that begins at a byte
abbrev pub frame_address : Layout → ℕ → ℕ
frame_address f frame = 2 ^ 32 + frame * 2 ^ f.granule

abbrev pub frame_beginning : (granule address : ℕ) → ℕ
frame_beginning granule address = (address - 2 ^ 32) / 2 ^ granule

abbrev pub frame_named : Layout → (address : ℕ) → ℕ
frame_named f address = frame_beginning f.granule address

-- The bytes of an image: the eight bytes `IOPTIMG1`, the format's number, the number of levels that the space started with, the
-- number of frames, the root's word, and the entries of all frames in order. Numbers have their least byte first.
use Rattle.std.specs.Prelude.{ℕ, ◌+◌, ◌*◌, ◌^◌, List, ◌∷◌, ◌++◌, codes, drop, flat_map, slice_index}
use Rattle.byteorder.specs.Endian.{little_bytes, little_number}
use Rattle.pt_model.specs.Layout.{Layout}

-- the number in so many bytes from a place on
unfoldable pub number_at : (offset bytes : ℕ) → List ℕ → ℕ
number_at offset bytes image = little_number bytes (drop offset image)

-- the length in bytes of an image of n frames
abbrev pub image_length : Layout → (n : ℕ) → ℕ
image_length f n = 22 + 8 * (n * 2 ^ f.index)

abbrev pub root_in : List ℕ → ℕ
root_in image = number_at 14 8 image

-- the word at an entry of a frame
abbrev pub entry_at : Layout → List ℕ → (frame number : ℕ) → ℕ
entry_at f image frame number = number_at (22 + 8 * (frame * 2 ^ f.index + number)) 8 image

-- the bytes before an image's entries: its header's fields and the root's word
abbrev pub head_bytes : (number levels n root : ℕ) → List ℕ
head_bytes number levels n root = codes "IOPTIMG1" ++ number ∷ levels ∷ little_bytes 4 n ++ little_bytes 8 root

-- the bytes of an image: those, and the entries of words of n frames
abbrev pub image_bytes : (number levels n : ℕ) → (words : List ℕ) → List ℕ
image_bytes number levels n words = head_bytes number levels n (slice_index words 0) ++ flat_map (little_bytes 8) (drop (1 + n) words)

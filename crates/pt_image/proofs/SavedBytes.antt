-- The image of words has their root and entries, and the header's fields.
use Rattle.std.proofs.Common.{◌≡◌, ℕ, zero, suc, ◌+◌, ◌*◌, ◌^◌, ◌<◌, List, [], ◌∷◌, ◌++◌, length, refl, sym, ap, ◌∙◌, arith, drop, length-append, length-drop}
use Rattle.std.specs.Prelude.{Some, flat_map, slice_index}
use Rattle.std.proofs.lemmas.List.{drop-drop, get_or-drop}
use Rattle.std.proofs.lemmas.Nat.{mul-le}
use Rattle.byteorder.specs.Endian.{little_bytes, little_number}
use Rattle.byteorder.specs.Numbers.{little_number-reads_back}
use Rattle.pt_model.specs.declared.command.Name.{Name}
use Rattle.pt_model.specs.Layout.{Layout}
use Rattle.pt_model.specs.Words.{entry_of, entry_place, word_count}
use Rattle.pt_names.specs.Names.{layout_of}
use Rattle.pt_image.specs.Bytes.{entry_at, head_bytes, image_bytes, image_length, number_at, root_in}
use Rattle.pt_image.specs.Headers.{AreFrames, AreLevels, HasFields, name_at}
use Rattle.pt_image.specs.Visits.{HasImage}

-- words as bytes, one after the other
words_in : (k : ℕ) (ws : List ℕ) → k < length ws → ((i : ℕ) → slice_index ws i < 2 ^ 64) → little_number 8 (drop (8 * k) (flat_map (little_bytes 8) ws)) ≡ slice_index ws k
words_in k [] lt fits = absurd (omega arith)
words_in zero (w ∷ ws) lt fits = little_number-reads_back 8 w (flat_map (little_bytes 8) ws) (fits 0)
words_in (suc k) (w ∷ ws) lt fits =
    ap (λ (m : ℕ). little_number 8 (drop m (little_bytes 8 w ++ flat_map (little_bytes 8) ws))) (let z : 8 * suc k ≡ suc (suc (suc (suc (suc (suc (suc (suc (8 * k)))))))) = omega arith in z)
    ∙ words_in k ws (omega arith) (λ i. fits (suc i))

bytes_long : (ws : List ℕ) → length (flat_map (little_bytes 8) ws) ≡ 8 * length ws
bytes_long [] = refl
bytes_long (w ∷ ws) = let more = bytes_long ws in let same = length-append (little_bytes 8 w) (flat_map (little_bytes 8) ws) in omega arith

module _ (f : Layout) (number levels n : ℕ) (words : List ℕ) (long : length words ≡ word_count f n) (fits : (i : ℕ) → slice_index words i < 2 ^ 64) where
  abbrev image : List ℕ
  image = image_bytes number levels n words

  entry_is : (frame i : ℕ) → frame < n → i < 2 ^ f.index → entry_at f image frame i ≡ entry_of f n words frame i
  unfolding number_at
  entry_is frame i lt small =
      let k : ℕ = frame * 2 ^ f.index + i in
      let place = mul-le (frame + 1) (2 ^ f.index) n (2 ^ f.index) (omega arith) (omega arith) in
      let row : (frame + 1) * 2 ^ f.index ≡ frame * 2 ^ f.index + 2 ^ f.index = omega arith in
      let rest = length-drop (1 + n) words in
      ap (little_number 8) (sym (drop-drop (8 * k) 22 image))
      ∙ words_in k (drop (1 + n) words) (omega arith) (λ j. let e = get_or-drop (1 + n) words j 0 in let b = fits (1 + n + j) in omega arith)
      ∙ get_or-drop (1 + n) words k 0 ∙ ap (slice_index words) (let z : 1 + n + k ≡ entry_place f n frame i = omega arith in z)

  root_is : slice_index words 0 ≡ root_in image
  unfolding number_at
  root_is = sym (little_number-reads_back 8 (slice_index words 0) (flat_map (little_bytes 8) (drop (1 + n) words)) (fits 0))

  pub image_has : HasImage f n (image_bytes number levels n words) words
  image_has = record { root = root_is; entries = λ frame lt i small. sym (entry_is frame i lt small) }

pub image_long : (f : Layout) (number levels n : ℕ) (words : List ℕ) → length words ≡ word_count f n → length (image_bytes number levels n words) ≡ image_length f n
image_long f number levels n words long =
    let bytes = bytes_long (drop (1 + n) words) in
    let rest = length-drop (1 + n) words in
    let same = length-append (head_bytes number levels n (slice_index words 0)) (flat_map (little_bytes 8) (drop (1 + n) words)) in omega arith

-- the fields of the header read back
pub image_fields : (number levels n : ℕ) (words : List ℕ) (name : Name) → n < 2 ^ 32 → name_at number ≡ Some name → AreLevels (layout_of name) levels → AreFrames (layout_of name) n →
    HasFields (image_bytes number levels n words) (record { number = number; levels = levels; frames = n; length = image_length (layout_of name) n })
unfolding number_at
image_fields number levels n words name few known are_levels are_frames = record {
  marked = refl;
  number_is = omega arith;
  levels_is = omega arith;
  frames_is = sym (little_number-reads_back 4 n (little_bytes 8 (slice_index words 0) ++ flat_map (little_bytes 8) (drop (1 + n) words)) few);
  name = name;
  name_is = known;
  levels = are_levels;
  frames = are_frames;
  length_is = refl;
}

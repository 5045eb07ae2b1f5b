-- The words as three functions: the root, the tags and the entries. A write at one of these places and a read
-- at another.
use Rattle.std.proofs.Common.{◌≡◌, ◌≢◌, ℕ, ◌+◌, ◌^◌, ◌<◌, List, length, slice_index, slice_set, arith, length-set, get_or-set_same, get_or-set_other}
use Rattle.std.proofs.lemmas.Nat.{mul-add-lt, same_from_place}
use Rattle.pt_model.specs.Layout.{Layout}
use Rattle.pt_model.specs.Words.{word_count, tag, entry_place, entry_of}

-- The places lie within the words.

pub root_within : (f : Layout) (n : ℕ) → 0 < word_count f n
root_within f n = omega arith

pub tag_within : (f : Layout) (n g : ℕ) → g < n → 1 + g < word_count f n
tag_within f n g h = omega arith

pub entry_within : (f : Layout) (n g i : ℕ) → g < n → i < 2 ^ f.index → entry_place f n g i < word_count f n
entry_within f n g i h k = omega (arith, mul-add-lt g (2 ^ f.index) i n h k)

-- two places of entries that are one are one entry
pub one_entry : (f : Layout) (n g i h j : ℕ) → i < 2 ^ f.index → j < 2 ^ f.index →
    entry_place f n g i ≡ entry_place f n h j → (g ≡ h) × (i ≡ j)
one_entry f n g i h j a b e = same_from_place g i h j (2 ^ f.index) a b (omega arith)

-- A write keeps the number of words.

pub length_kept : (words : List ℕ) (place word : ℕ) → length (slice_set words place word) ≡ length words
length_kept words place word = length-set words place word

-- After a write of a tag.

pub tag_same : (f : Layout) (n : ℕ) (words : List ℕ) (g word : ℕ) → length words ≡ word_count f n → g < n →
    tag (slice_set words (1 + g) word) g ≡ word
tag_same f n words g word whole h = get_or-set_same words (1 + g) word 0 (omega (arith, tag_within f n g h))

pub tag_else : (words : List ℕ) (g word h : ℕ) → h ≢ g → tag (slice_set words (1 + g) word) h ≡ tag words h
tag_else words g word h other = get_or-set_other words (1 + g) (1 + h) word 0 (λ e. other (omega arith))

pub root_after_tag : (words : List ℕ) (g word : ℕ) →
    slice_index (slice_set words (1 + g) word) 0 ≡ slice_index words 0
root_after_tag words g word = get_or-set_other words (1 + g) 0 word 0 (λ e. omega arith)

pub entry_after_tag : (f : Layout) (n : ℕ) (words : List ℕ) (g word h i : ℕ) → g < n →
    entry_of f n (slice_set words (1 + g) word) h i ≡ entry_of f n words h i
entry_after_tag f n words g word h i within =
    get_or-set_other words (1 + g) (entry_place f n h i) word 0 (λ e. omega arith)

-- After a write of an entry.

pub entry_same : (f : Layout) (n : ℕ) (words : List ℕ) (g i word : ℕ) → length words ≡ word_count f n → g < n →
    i < 2 ^ f.index → entry_of f n (slice_set words (entry_place f n g i) word) g i ≡ word
entry_same f n words g i word whole h k =
    get_or-set_same words (entry_place f n g i) word 0 (omega (arith, entry_within f n g i h k))

pub entry_else : (f : Layout) (n : ℕ) (words : List ℕ) (g i word h j : ℕ) → i < 2 ^ f.index → j < 2 ^ f.index →
    (h ≡ g → j ≡ i → ⊥) →
    entry_of f n (slice_set words (entry_place f n g i) word) h j ≡ entry_of f n words h j
entry_else f n words g i word h j a b other =
    get_or-set_other words (entry_place f n g i) (entry_place f n h j) word 0
    (λ e. let same : (h ≡ g) × (j ≡ i) = one_entry f n h j g i b a e in other same.0 same.1)

pub tag_after_entry : (f : Layout) (n : ℕ) (words : List ℕ) (g i word h : ℕ) → h < n →
    tag (slice_set words (entry_place f n g i) word) h ≡ tag words h
tag_after_entry f n words g i word h within =
    get_or-set_other words (entry_place f n g i) (1 + h) word 0 (λ e. omega arith)

pub root_after_entry : (f : Layout) (n : ℕ) (words : List ℕ) (g i word : ℕ) →
    slice_index (slice_set words (entry_place f n g i) word) 0 ≡ slice_index words 0
root_after_entry f n words g i word = get_or-set_other words (entry_place f n g i) 0 word 0 (λ e. omega arith)

-- After a write of the root.

pub root_same : (f : Layout) (n : ℕ) (words : List ℕ) (word : ℕ) → length words ≡ word_count f n →
    slice_index (slice_set words 0 word) 0 ≡ word
root_same f n words word whole = get_or-set_same words 0 word 0 (omega (arith, root_within f n))

pub tag_after_root : (words : List ℕ) (word h : ℕ) → tag (slice_set words 0 word) h ≡ tag words h
tag_after_root words word h = get_or-set_other words 0 (1 + h) word 0 (λ e. omega arith)

pub entry_after_root : (f : Layout) (n : ℕ) (words : List ℕ) (word h i : ℕ) →
    entry_of f n (slice_set words 0 word) h i ≡ entry_of f n words h i
entry_after_root f n words word h i = get_or-set_other words 0 (entry_place f n h i) word 0 (λ e. omega arith)

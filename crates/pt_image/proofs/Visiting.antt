-- Visits of entries put together: the words have what the image has.
use Rattle.std.proofs.Common.{◌≡◌, ◌≢◌, ℕ, zero, suc, ◌+◌, ◌-◌, ◌*◌, ◌/◌, ◌%◌, ◌<◌, ◌≤◌, ◌^◌, List, length, refl, sym, ap, ◌∙◌, arith}
use Rattle.std.specs.Prelude.{slice_index, slice_set}
use Rattle.std.proofs.lemmas.Nat.{shl-shr}
use mathlib.Core.Logic.{dite}
use native.Mathlib.Decide.{dec_le, ℕ_discrete}
use Rattle.pt_model.specs.declared.block.Block.{Block}
use Rattle.pt_model.specs.declared.position.Position.{Position}
use Rattle.pt_model.specs.Layout.{Layout}
use Rattle.pt_model.specs.Tables.{child_at, spine_position, starting_top}
use Rattle.pt_model.specs.Words.{entry_of, entry_place, frame_address, frame_named, placed_word, tag, word_count}
use Rattle.pt_model.proofs.Places.{entry_else, entry_same, length_kept, root_after_entry, root_after_tag, tag_after_entry, tag_same}
use Rattle.pt_format.specs.Words.{IsTableAddress}
use Rattle.pt_view.specs.Pieces.{word_of}
use Rattle.pt_image.specs.Bytes.{entry_at, root_in}
use Rattle.pt_image.specs.Drafts.{IsBegun, group_words, linked_words, part_of}
use Rattle.pt_image.specs.Visits.{HasImage, HasNoStray, IsUnvisited, IsVisited, Visits}
use Rattle.pt_image.proofs.Copying.{linked_entry, linked_tag}

-- the frame that a pointer names has the pointer's address
pub address_back : (f : Layout) (address : ℕ) → IsTableAddress f address → address ≡ frame_address f (frame_named f address)
address_back f address a =
    let is : address ≡ frame_address f a.frame = a.address_is in
    let from : 2 ^ 32 + a.frame * 2 ^ f.granule - 2 ^ 32 ≡ a.frame * 2 ^ f.granule = omega arith in
    let named : frame_named f address ≡ a.frame = ap (frame_named f) is ∙ ap (λ x. x / 2 ^ f.granule) from ∙ shl-shr a.frame f.granule in
    is ∙ ap (frame_address f) (sym named)

-- before the first entry
pub visit_begins : (f : Layout) (n : ℕ) (image words : List ℕ) (g : ℕ) → Visits f n image words words g 0
visit_begins f n image words g start = record {
  root = refl;
  tagged = start.tagged;
  own = λ i lt. absurd (omega arith);
  bare = λ i le lt. start.bare i lt;
  cleared = start.cleared;
  added = λ frame lt free some. absurd (some free);
}

-- past a zero entry
pub visit_passes : {f : Layout} {n : ℕ} {image words words' : List ℕ} {g number : ℕ} → Visits f n image words words' g number → number < 2 ^ f.index →
    entry_at f image g number ≡ 0 → Visits f n image words words' g (number + 1)
visit_passes {f} {n} {image} {words} {words'} {g} {number} v below none start = let s = v start in record {
  root = s.root;
  tagged = s.tagged;
  own = λ i lt. dite (ℕ_discrete i number)
      (λ e. ap (entry_of f n words' g) e ∙ s.bare number (omega arith) below ∙ sym none ∙ ap (entry_at f image g) (sym e))
      (λ ne. s.own i (omega arith));
  bare = λ i le lt. s.bare i (omega arith) lt;
  cleared = s.cleared;
  added = s.added;
}

-- The words after those of a block are put.
module _ (f : Layout) (n : ℕ) (words : List ℕ) (g number : ℕ) (b : Block) where
  abbrev now : (k : ℕ) → List ℕ
  now k = group_words f n words g number b k

  now_long : (k : ℕ) → length (now k) ≡ length words
  now_long zero = refl
  now_long (suc k) = length_kept (now k) (entry_place f n g (number + k)) (word_of f (part_of b k)) ∙ now_long k

  now_root : (k : ℕ) → slice_index (now k) 0 ≡ slice_index words 0
  now_root zero = refl
  now_root (suc k) = root_after_entry f n (now k) g (number + k) (word_of f (part_of b k)) ∙ now_root k

  pub now_tag : (k h : ℕ) → h < n → tag (now k) h ≡ tag words h
  now_tag zero h lt = refl
  now_tag (suc k) h lt = tag_after_entry f n (now k) g (number + k) (word_of f (part_of b k)) h lt ∙ now_tag k h lt

  now_else : (k h i : ℕ) → number + k ≤ 2 ^ f.index → i < 2 ^ f.index → ((part : ℕ) → part < k → h ≡ g → i ≡ number + part → ⊥) →
      entry_of f n (now k) h i ≡ entry_of f n words h i
  now_else zero h i fits lt other = refl
  now_else (suc k) h i fits lt other =
      entry_else f n (now k) g (number + k) (word_of f (part_of b k)) h i (omega arith) lt (other k (omega arith))
      ∙ now_else k h i (omega arith) lt (λ part less. other part (omega arith))

  now_has : length words ≡ word_count f n → g < n → (k part : ℕ) → number + k ≤ 2 ^ f.index → part < k → entry_of f n (now k) g (number + part) ≡ word_of f (part_of b part)
  now_has long within zero part fits less = absurd (omega arith)
  now_has long within (suc k) part fits less = dite (ℕ_discrete part k)
      (λ e. ap (λ x. entry_of f n (now (suc k)) g (number + x)) e
      ∙ entry_same f n (now k) g (number + k) (word_of f (part_of b k)) (now_long k ∙ long) within (omega arith) ∙ ap (λ x. word_of f (part_of b x)) (sym e))
      (λ ne. entry_else f n (now k) g (number + k) (word_of f (part_of b k)) g (number + part) (omega arith) (omega arith) (λ _ e. ne (omega arith))
      ∙ now_has long within k part (omega arith) (omega arith))

-- past a block, each of whose words the image has
pub visit_copies : {f : Layout} {n : ℕ} {image words words' : List ℕ} {g number : ℕ} → Visits f n image words words' g number → (b : Block) (count : ℕ) →
    length words' ≡ word_count f n → g < n → number + count ≤ 2 ^ f.index →
    ((part : ℕ) → part < count → entry_at f image g (number + part) ≡ word_of f (part_of b part)) →
    Visits f n image words (group_words f n words' g number b count) g (number + count)
visit_copies {f} {n} {image} {words} {words'} {g} {number} v b count long within fits has start =
    let s = v start in
    let ws : List ℕ = group_words f n words' g number b count in
    let same : (h : ℕ) → h < n → tag ws h ≡ tag words' h = now_tag f n words' g number b count in
    let elsewhere : (h i : ℕ) → i < 2 ^ f.index → ((part : ℕ) → part < count → h ≡ g → i ≡ number + part → ⊥) → entry_of f n ws h i ≡ entry_of f n words' h i =
    (λ h i lt other. now_else f n words' g number b count h i fits lt other) in
    record {
      root = now_root f n words' g number b count ∙ s.root;
      tagged = λ e. s.tagged (sym (same g within) ∙ e);
      own = λ i lt. dite (dec_le number i)
          (λ le. let is : i ≡ number + (i - number) = omega arith in
          ap (entry_of f n ws g) is ∙ now_has f n words' g number b long within count (i - number) fits (omega arith) ∙ sym (has (i - number) (omega arith)) ∙ ap (entry_at f image g) (sym is))
          (λ less. elsewhere g i (omega arith) (λ part _ _ e. omega arith) ∙ s.own i (omega arith));
      bare = λ i le lt. elsewhere g i lt (λ part few _ e. omega arith) ∙ s.bare i (omega arith) lt;
      cleared = λ h i lt small free. let none = sym (same h lt) ∙ free in
          elsewhere h i small (λ part _ e _. s.tagged (ap (tag words') (sym e) ∙ none)) ∙ s.cleared h i lt small none;
      added = λ h lt free some i small. elsewhere h i small (λ part _ e _. start.tagged (ap (tag words) (sym e) ∙ free)) ∙ s.added h lt free (λ e. some (same h lt ∙ e)) i small;
    }

-- a frame has a tag when it is linked
pub child_is_tagged : (f : Layout) (n : ℕ) (words : List ℕ) (g number c : ℕ) (p : Position) → c < n → length words ≡ word_count f n → tag (linked_words f n words g number p c) c ≢ 0
child_is_tagged f n words g number c p few long e =
    let is : tag (linked_words f n words g number p c) c ≡ placed_word (child_at f p number) =
    tag_after_entry f n (slice_set words (1 + c) (placed_word (child_at f p number))) g number (f.pointer p.level (frame_address f c)) c few
    ∙ tag_same f n words c (placed_word (child_at f p number)) long few in
    let z : placed_word (child_at f p number) ≡ 0 = sym is ∙ e in omega arith

-- past a table, by a visit of all of it
module _ {f : Layout} {n : ℕ} {image words words' : List ℕ} {g number : ℕ} (c : ℕ) (p : Position) (v : Visits f n image words words' g number)
    (below : number < 2 ^ f.index) (few : c < n) (within : g < n) (long : length words' ≡ word_count f n) (free : tag words' c ≡ 0)
    (is : entry_at f image g number ≡ f.pointer p.level (frame_address f c)) where
  abbrev linked : List ℕ
  linked = linked_words f n words' g number p c

  abbrev tagged_now : List ℕ
  tagged_now = slice_set words' (1 + c) (placed_word (child_at f p number))

  module _ {words'' : List ℕ} (tags : (h : ℕ) → h < n → tag linked h ≢ 0 → tag words'' h ≡ tag linked h)
      (entries : (h i : ℕ) → h < n → i < 2 ^ f.index → tag linked h ≢ 0 → h ≢ c → entry_of f n words'' h i ≡ entry_of f n linked h i)
      (inner : Visits f n image linked words'' c (2 ^ f.index)) (start : IsUnvisited f n words g) where
    s : IsVisited f n image words words' g number
    s = v start

    other : g ≢ c
    other e = s.tagged (ap (tag words') e ∙ free)

    child_tag : tag linked c ≡ placed_word (child_at f p number)
    child_tag = tag_after_entry f n tagged_now g number (f.pointer p.level (frame_address f c)) c few ∙ tag_same f n words' c (placed_word (child_at f p number)) long few

    child_tagged : tag linked c ≢ 0
    child_tagged e = let z : placed_word (child_at f p number) ≡ 0 = sym child_tag ∙ e in omega arith

    same_tag : (h : ℕ) → h < n → h ≢ c → tag linked h ≡ tag words' h
    same_tag = linked_tag f n words' g number c p below few

    same_entry : (h i : ℕ) → i < 2 ^ f.index → (h ≡ g → i ≡ number → ⊥) → entry_of f n linked h i ≡ entry_of f n words' h i
    same_entry = linked_entry f n words' g number c p below few

    own_tagged : tag linked g ≢ 0
    own_tagged e = s.tagged (sym (same_tag g within other) ∙ e)

    unvisited : IsUnvisited f n linked c
    unvisited = record {
      tagged = child_tagged;
      bare = λ i lt. same_entry c i lt (λ e _. other (sym e)) ∙ s.cleared c i few lt free;
      cleared = λ h i lt small none.
          let no_child : h ≢ c = (λ e. child_tagged (ap (tag linked) (sym e) ∙ none)) in
          let was : tag words' h ≡ 0 = sym (same_tag h lt no_child) ∙ none in
          same_entry h i small (λ e _. s.tagged (ap (tag words') (sym e) ∙ was)) ∙ s.cleared h i lt small was;
    }

    r : IsVisited f n image linked words'' c (2 ^ f.index)
    r = inner unvisited

    pointer_is : entry_of f n linked g number ≡ entry_at f image g number
    pointer_is =
        entry_same f n tagged_now g number (f.pointer p.level (frame_address f c)) (length_kept words' (1 + c) (placed_word (child_at f p number)) ∙ long) within below ∙ sym is

    pub visit_entered : IsVisited f n image words words'' g (number + 1)
    visit_entered = record {
      root = r.root ∙ root_after_entry f n tagged_now g number (f.pointer p.level (frame_address f c)) ∙ root_after_tag words' c (placed_word (child_at f p number)) ∙ s.root;
      tagged = λ e. own_tagged (sym (tags g within own_tagged) ∙ e);
      own = λ i lt. entries g i within (omega arith) own_tagged other ∙ dite (ℕ_discrete i number)
          (λ e. ap (entry_of f n linked g) e ∙ pointer_is ∙ ap (entry_at f image g) (sym e))
          (λ ne. same_entry g i (omega arith) (λ _ e. ne e) ∙ s.own i (omega arith));
      bare = λ i le lt. entries g i within lt own_tagged other ∙ same_entry g i lt (λ _ e. omega arith) ∙ s.bare i (omega arith) lt;
      cleared = r.cleared;
      added = λ h lt none some. dite (ℕ_discrete h c)
          (λ e i small. ap (λ x. entry_of f n words'' x i) e ∙ r.own i small ∙ ap (λ x. entry_at f image x i) (sym e))
          (λ ne. dite (ℕ_discrete (tag linked h) 0)
          (λ new i small. r.added h lt new some i small)
          (λ old i small. entries h i lt small old ne ∙ same_entry h i small (λ e _. start.tagged (ap (tag words) (sym e) ∙ none))
          ∙ s.added h lt none (λ e. old (same_tag h lt ne ∙ e)) i small));
    }

-- all is visited, from the root's table alone
pub visited_has : (f : Layout) (n l r : ℕ) (image words words' : List ℕ) → IsBegun f n l r words → r < n → slice_index words 0 ≡ root_in image →
    Visits f n image words words' r (2 ^ f.index) → HasNoStray f n image words' → HasImage f n image words'
visited_has f n l r image words words' begun within root v no_stray =
    let start : IsUnvisited f n words r = record {
      tagged = λ e. (let z : placed_word (spine_position (starting_top l)) ≡ 0 = sym begun.top ∙ e in omega arith);
      bare = λ i lt. begun.cleared r i within lt;
      cleared = λ h i lt small _. begun.cleared h i lt small;
    } in
    let s = v start in
    record {
      root = s.root ∙ root;
      entries = λ h lt. dite (ℕ_discrete h r)
          (λ e i small. ap (λ x. entry_of f n words' x i) e ∙ s.own i small ∙ ap (λ x. entry_at f image x i) (sym e))
          (λ ne. dite (ℕ_discrete (tag words' h) 0)
          (λ none i small. s.cleared h i lt small none ∙ sym (no_stray h i lt small none))
          (λ some. s.added h lt (begun.free h ne lt) some));
    }

pub root_back : (a frame level : ℕ) → a / 8 ≡ frame → a % 8 ≡ level → frame * 8 + level ≡ a
root_back a frame level high low = omega arith

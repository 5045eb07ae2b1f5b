-- Cases of the order of visits and of each fault, on both sides, in a small format: tables of 4 entries, a space of 16 pages, three
-- levels at the most, and blocks of 1 and of 2 pages, of so many words.
use Rattle.std.proofs.Common.{◌≡◌, ◌⊎◌, inl, inr, ⊎_elim, ℕ, zero, suc, ◌+◌, ◌-◌, ◌*◌, ◌/◌, ◌%◌, ◌^◌, ◌<◌, true, false, List, [], ◌∷◌, ◌++◌, refl, sym, ap, ◌∙◌, arith}
use Rattle.std.specs.Prelude.{IsTrue, ◌||◌, None, Some, flat_map}
use Rattle.std.proofs.lemmas.Bool.{false≢true, ne_eqb}
use Rattle.std.proofs.lemmas.Nat.{pow_pos}
use mathlib.Core.Logic.{dite}
use native.Mathlib.Decide.{ℕ_discrete}
use Rattle.pt_model.specs.declared.block.Block.{Block}
use Rattle.pt_model.specs.declared.block.Prot.TheVariants.{Read}
use Rattle.pt_model.specs.Layout.{Layout, is_size, nothing, nowhere}
use Rattle.pt_model.specs.Words.{frame_address}
use Rattle.pt_image.specs.Bytes.{entry_at, number_at}
use Rattle.pt_image.specs.Drafts.{part_of}
use Rattle.pt_view.specs.Pieces.{word_of, words_of}
use Rattle.pt_image.specs.Order.{Visit, pointed}
use Rattle.pt_image.specs.Faults.{HasBlockAt, HasFault, HasRoot, IsGoodEntry, IsGoodImage, IsInBlock, IsOfSpine, IsRefusedFor, IsStray, all_visits}
use Rattle.pt_image.specs.declared.fault.EntryFault.TheVariants.{Outside, Alien, Pointer, Shared, Group, Spine}
use Rattle.pt_image.specs.declared.fault.ImageFault.TheVariants.{Root, Entry}

abbrev pub small : Layout
small = record {
  granule = 4;
  index = 2;
  input = 8;
  output = 10;
  start = 2;
  levels = 3;
  grows = true;
  signed = false;
  sizes = 0 ∷ 1 ∷ [];
  states = λ prot. true;
  pointer = λ level address. address + 1;
  leaf = λ level log2 out prot part. out * 64 + log2 * 8 + 2;
  step = λ level word page. nothing;
  walk = λ words address. nowhere;
}

-- a number in eight bytes, the least first
abbrev bytes_of : (count number : ℕ) → List ℕ
bytes_of zero number = []
bytes_of (suc count) number = number % 256 ∷ bytes_of count (number / 256)

-- an image whose root and entries are given; the header's other fields are not read
abbrev image_of : (root : ℕ) → (entries : List ℕ) → List ℕ
image_of root entries = bytes_of 14 0 ++ bytes_of 8 root ++ flat_map (bytes_of 8) entries

abbrev pub to : (frame : ℕ) → ℕ
to frame = frame_address small frame + 1

-- a page onto page 3, and the block of two pages onto page 4
abbrev leaf_of_page : ℕ
leaf_of_page = 3 * 64 + 2

abbrev pub leaf_of_pair : ℕ
leaf_of_pair = 4 * 64 + 8 + 2

abbrev pub at : (frame level base number : ℕ) → Visit
at frame level base number = record { frame = frame; position = record { level = level; base = base }; number = number }

-- ORDER

-- the root's table points to the table in frame 1 at its entries 1 and 3: it is visited after each
in_order : all_visits small 2 2 (image_of 1 (0 ∷ to 1 ∷ 0 ∷ to 1 ∷ leaf_of_page ∷ 0 ∷ 0 ∷ 0 ∷ [])) ≡
    at 0 1 0 0 ∷ at 0 1 0 1 ∷ at 1 0 4 0 ∷ at 1 0 4 1 ∷ at 1 0 4 2 ∷ at 1 0 4 3 ∷ at 0 1 0 2
    ∷ at 0 1 0 3 ∷ at 1 0 12 0 ∷ at 1 0 12 1 ∷ at 1 0 12 2 ∷ at 1 0 12 3 ∷ []
unfolding number_at
in_order = refl

-- a pointer past the image's frames and a leaf lead nowhere, and neither does a pointer's word in a table of level 0
ends_here : all_visits small 2 2 (image_of 1 (to 2 ∷ leaf_of_page ∷ to 1 ∷ 0 ∷ to 0 ∷ 0 ∷ 0 ∷ 0 ∷ [])) ≡
    at 0 1 0 0 ∷ at 0 1 0 1 ∷ at 0 1 0 2 ∷ at 1 0 8 0 ∷ at 1 0 8 1 ∷ at 1 0 8 2 ∷ at 1 0 8 3 ∷ at 0 1 0 3 ∷ []
unfolding number_at
ends_here = refl

-- FAULTS

-- the root's frame is one of the image's, and its level is from the starting top to the highest
roots : HasRoot small 2 2 (image_of (1 * 8 + 1) []) × HasRoot small 2 2 (image_of (1 * 8 + 2) [])
    × ¬ HasRoot small 2 2 (image_of (2 * 8 + 1) []) × ¬ HasRoot small 2 2 (image_of (1 * 8 + 0) []) × ¬ HasRoot small 2 2 (image_of (1 * 8 + 3) [])
unfolding number_at
roots = (
  record { a_frame = omega arith; low = omega arith; high = omega arith },
  record { a_frame = omega arith; low = omega arith; high = omega arith },
  (λ r. let a = r.a_frame in omega arith),
  (λ r. let a = r.low in omega arith),
  (λ r. let a = r.high in omega arith),
)

-- in a table of level 2 entry 0 has all pages of the space, and entry 1 none
abbrev high_root : List ℕ
high_root = image_of 2 (to 1 ∷ 1 ∷ 0 ∷ 0 ∷ 0 ∷ 0 ∷ 0 ∷ 0 ∷ [])

outside : HasFault small 2 2 high_root [] (at 0 2 0 1) Outside × ¬ HasFault small 2 2 high_root [] (at 0 2 0 0) Outside × ¬ HasFault small 2 2 high_root [] (at 0 2 0 2) Outside
unfolding number_at
outside = (((λ e. omega arith), omega arith), (λ h. let a = h.1 in omega arith), (λ h. h.0 refl))

-- a word that is neither zero nor a leaf nor a pointer is alien where its pages are of the space
strange : HasFault small 2 2 (image_of 1 (1 ∷ 0 ∷ 0 ∷ 0 ∷ [])) [] (at 0 1 0 0) Alien × ¬ HasFault small 2 2 high_root [] (at 0 2 0 1) Alien × ¬ HasFault small 2 2 high_root [] (at 0 2 0 0) Alien
unfolding number_at
strange = (
  (
    omega arith,
    record {
      not_empty = λ e. omega arith;
      no_pointer = λ address high frame e. let a = frame.address_is in omega arith;
      no_leaf = λ log2 out part prot may e. omega arith;
    },
  ),
  (λ h. let a = h.0 in omega arith),
  (λ h. h.1.no_pointer (frame_address small 1) (record { above = omega arith; below = omega arith }) (record { frame = 1; in_limit = omega arith; address_is = refl }) refl),
)

-- a pointer to frame 1 is one to no frame of an image of one frame
abbrev pub one_pointer : List ℕ
one_pointer = image_of 1 (to 1 ∷ 0 ∷ 0 ∷ 0 ∷ 0 ∷ 0 ∷ 0 ∷ 0 ∷ [])

pub none_some : {x : ℕ} → None ≡ Some x → ⊥
none_some e = cc

pointing : HasFault small 1 2 one_pointer [] (at 0 1 0 0) Pointer × ¬ HasFault small 2 2 one_pointer [] (at 0 1 0 0) Pointer
unfolding number_at
pointing = (
  (
    omega arith,
    frame_address small 1,
    record {
      at_level = record { above = omega arith; below = omega arith };
      a_frame = record { frame = 1; in_limit = omega arith; address_is = refl };
      word_is = refl;
    },
    refl,
  ),
  (λ h. none_some (sym h.3)),
)

-- the first of two pointers to a frame is none too many, but one to the root is
abbrev two_pointers : List ℕ
two_pointers = image_of 1 (to 1 ∷ to 1 ∷ to 0 ∷ 0 ∷ 0 ∷ 0 ∷ 0 ∷ 0 ∷ [])

some_same : {a b : ℕ} → Some a ≡ Some b → a ≡ b
some_same e = cc

sharing : HasFault small 2 2 two_pointers (at 0 1 0 0 ∷ at 1 0 0 0 ∷ []) (at 0 1 0 1) Shared × HasFault small 2 2 two_pointers [] (at 0 1 0 2) Shared
    × ¬ HasFault small 2 2 two_pointers [] (at 0 1 0 0) Shared × ¬ HasFault small 2 2 two_pointers (at 0 1 0 2 ∷ []) (at 0 1 0 1) Shared
unfolding number_at
sharing = (
  (omega arith, 1, refl, inr (inl refl)),
  (omega arith, 0, refl, inl refl),
  (λ h. let is = some_same h.2 in elim h.3 [ inl root ↦ omega arith | inr named ↦ absurd named ]),
  (λ h. let is = some_same h.2 in elim h.3 [ inl root ↦ omega arith | inr named ↦ elim named [ inl here ↦ (let also = some_same here in omega arith) | inr more ↦ absurd more ] ]),
)

-- an entry of a block is in a group only where the block has all its words: here the second word isn't there
abbrev pub pair_at : (number out : ℕ) → Block
pair_at number out = record { first = number; log2 = 1; out = out; prot = Read }

abbrev pub pair_in : (number : ℕ) → List ℕ
pair_in number = image_of 1 (to 1 ∷ 0 ∷ 0 ∷ 0 ∷ 0 ∷ 0 ∷ leaf_of_pair ∷ number ∷ [])

two : (P : ℕ → Type 0) → P 0 → P 1 → (k : ℕ) → k < 2 → P k
two P a b zero lt = a
two P a b (suc zero) lt = b
two P a b (suc (suc k)) lt = absurd (omega arith)

pub has_pair : HasBlockAt small (pair_in leaf_of_pair) 1 (record { level = 0; base = 0 }) 2 (pair_at 2 4)
unfolding number_at
has_pair = record {
  legal = record { a_size = refl; first_aligned = refl; out_aligned = refl; in_input = omega arith; in_output = omega arith };
  stated = refl;
  level_is = refl;
  first_is = refl;
  words = two (λ part. entry_at small (pair_in leaf_of_pair) 1 (2 + part) ≡ word_of small (part_of (pair_at 2 4) part)) refl refl;
}

size_of : (log2 : ℕ) → IsTrue (is_size small log2) → (log2 ≡ 0) ⊎ (log2 ≡ 1)
size_of zero e = inl refl
size_of (suc zero) e = inr refl
size_of (suc (suc k)) e =
    let off : is_size small (suc (suc k)) ≡ false = (λ i. ne_eqb 0 (suc (suc k)) (λ (z : 0 ≡ suc (suc k)). omega arith) i || (ne_eqb 1 (suc (suc k)) (λ (z : 1 ≡ suc (suc k)). omega arith) i || false)) in
    absurd (false≢true (sym off ∙ e))

-- a word of a pair whose other word is zero
half_pair : ¬ IsInBlock small (pair_in 0) (at 1 0 0 2)
unfolding number_at
half_pair x =
    let w : (k : ℕ) → ℕ = (λ k. entry_at small (pair_in 0) 1 k) in
    let first : w (x.number + 0) ≡ x.block.out * 64 + x.block.log2 * 8 + 2 = x.has.words 0 (pow_pos (x.block.log2 - 2 * (x.block.log2 / 2))) in
    ⊎_elim
    (λ page.
    let one : words_of small x.block ≡ 1 = ap (λ (k : ℕ). 2 ^ (k - 2 * (k / 2))) page in
    let here : x.number + 0 ≡ 2 = (let a = x.here in let b = x.a_part in omega arith) in
    let word : leaf_of_pair ≡ x.block.out * 64 + x.block.log2 * 8 + 2 = ap w (sym here) ∙ first in omega arith)
    (λ pair.
    let two_words : words_of small x.block ≡ 2 = ap (λ (k : ℕ). 2 ^ (k - 2 * (k / 2))) pair in
    let second : w (x.number + 1) ≡ x.block.out * 64 + x.block.log2 * 8 + 2 = x.has.words 1 (omega arith) in
    dite (ℕ_discrete x.number 2)
    (λ last. let here : x.number + 1 ≡ 3 = omega arith in let word : 0 ≡ x.block.out * 64 + x.block.log2 * 8 + 2 = ap w (sym here) ∙ second in omega arith)
    (λ ne. let here : x.number + 0 ≡ 1 = (let a = x.here in let b = x.a_part in omega arith) in let word : 0 ≡ x.block.out * 64 + x.block.log2 * 8 + 2 = ap w (sym here) ∙ first in omega arith))
    (size_of x.block.log2 x.has.legal.a_size)

no_leaf_level : ¬ IsInBlock small (pair_in leaf_of_pair) (at 0 1 0 0)
no_leaf_level x = let level : x.block.log2 / 2 ≡ 1 = x.has.level_is in ⊎_elim (λ page. omega arith) (λ pair. omega arith) (size_of x.block.log2 x.has.legal.a_size)

grouped : IsInBlock small (pair_in leaf_of_pair) (at 1 0 0 2) × IsInBlock small (pair_in leaf_of_pair) (at 1 0 0 3) × ¬ IsInBlock small (pair_in 0) (at 1 0 0 2)
    × ¬ IsInBlock small (pair_in leaf_of_pair) (at 0 1 0 0)
unfolding number_at
grouped = (
  record { block = pair_at 2 4; number = 2; part = 0; here = refl; a_part = omega arith; has = has_pair },
  record { block = pair_at 2 4; number = 2; part = 1; here = refl; a_part = omega arith; has = has_pair },
  half_pair,
  no_leaf_level,
)

-- entry 0 of a spine table above the starting top is a pointer
unbridged : HasFault small 1 2 (image_of 2 (0 ∷ 0 ∷ 0 ∷ 0 ∷ [])) [] (at 0 2 0 0) Spine × ¬ HasFault small 1 3 (image_of 2 (0 ∷ 0 ∷ 0 ∷ 0 ∷ [])) [] (at 0 2 0 0) Spine
    × ¬ HasFault small 1 2 (image_of 2 (0 ∷ 0 ∷ 0 ∷ 0 ∷ [])) [] (at 0 2 0 1) Spine
unfolding number_at
unbridged = (
  (record { first = refl; at_page_0 = refl; above = omega arith }, inl refl),
  (λ h. let a = h.0.above in omega arith),
  (λ h. let a = h.0.first in omega arith),
)

-- an entry of a frame to which nothing points
stray : IsStray small 2 2 (image_of 1 (0 ∷ 0 ∷ 0 ∷ 0 ∷ 0 ∷ 0 ∷ 1 ∷ 0 ∷ [])) 1 2 × ¬ IsStray small 2 2 (image_of 1 (0 ∷ 0 ∷ 0 ∷ 0 ∷ 0 ∷ 0 ∷ 1 ∷ 0 ∷ [])) 1 1
    × ¬ IsStray small 2 2 one_pointer 1 0 × ¬ IsStray small 2 2 one_pointer 0 0
unfolding number_at
stray = (
  record {
    a_frame = omega arith;
    an_entry = omega arith;
    free = λ r. elim r [
      | inl root ↦ omega arith
      | inr a ↦ elim a [ inl e ↦ none_some e | inr b ↦ elim b [ inl e ↦ none_some e | inr c ↦ elim c [ inl e ↦ none_some e | inr d ↦ elim d [ inl e ↦ none_some e | inr more ↦ absurd more ] ] ] ]
    ];
    some = λ e. omega arith;
  },
  (λ h. h.some refl),
  (λ h. h.free (inr (inl refl))),
  (λ h. h.free (inl refl)),
)

-- WHOLE IMAGES

-- a zero entry that needn't be a pointer has no fault
zero_good : (n l : ℕ) (image : List ℕ) (before : List Visit) (v : Visit) → entry_at small image v.frame v.number ≡ 0 → pointed small v.position.level n (entry_at small image v.frame v.number) ≡ None →
    ¬ IsOfSpine small n l image v → IsGoodEntry small n l image before v
zero_good n l image before v none points off Outside h = h.0 none
zero_good n l image before v none points off Alien h = h.1.not_empty none
zero_good n l image before v none points off Pointer h = let e = h.2.word_is in omega arith
zero_good n l image before v none points off Shared h = none_some (sym points ∙ h.2)
zero_good n l image before v none points off Group h = let e = h.3.word_is in omega arith
zero_good n l image before v none points off Spine h = off h.0

abbrev empty : List ℕ
empty = image_of 1 (0 ∷ 0 ∷ 0 ∷ 0 ∷ [])

-- an image of the root's table alone is good, whose entries are zero
empty_good : IsGoodImage small 1 2 empty
unfolding number_at
empty_good = record {
  root = record { a_frame = omega arith; low = omega arith; high = omega arith };
  entries = (
    zero_good 1 2 empty [] (at 0 1 0 0) refl refl (λ x. let a = x.above in omega arith),
    (
      zero_good 1 2 empty (at 0 1 0 0 ∷ []) (at 0 1 0 1) refl refl (λ x. let a = x.above in omega arith),
      (
        zero_good 1 2 empty (at 0 1 0 0 ∷ at 0 1 0 1 ∷ []) (at 0 1 0 2) refl refl (λ x. let a = x.above in omega arith),
        (zero_good 1 2 empty (at 0 1 0 0 ∷ at 0 1 0 1 ∷ at 0 1 0 2 ∷ []) (at 0 1 0 3) refl refl (λ x. let a = x.above in omega arith), tt),
      ),
    ),
  );
  no_stray = λ frame index x. let a = x.a_frame in x.free (inl (let z : 0 ≡ frame = omega arith in z));
}

-- The root's entry 0 is zero, its entry 1 points to the root, and its entry 2 is alien: the fault is that of entry 1.
abbrev self_pointer : List ℕ
self_pointer = image_of 1 (0 ∷ to 0 ∷ 1 ∷ 0 ∷ [])

first_of_two : IsRefusedFor small 1 2 self_pointer (Entry 1 0 1 Shared) × ¬ IsRefusedFor small 1 2 self_pointer Root × ¬ IsGoodImage small 1 2 self_pointer
unfolding number_at
first_of_two = (
  (
    record { a_frame = omega arith; low = omega arith; high = omega arith },
    (
      0,
      record {
        done = at 0 1 0 0 ∷ [];
        rest = at 0 0 4 0 ∷ at 0 0 4 1 ∷ at 0 0 4 2 ∷ at 0 0 4 3 ∷ at 0 1 0 2 ∷ at 0 1 0 3 ∷ [];
        list_is = refl;
        good = (zero_good 1 2 self_pointer [] (at 0 1 0 0) refl refl (λ x. let a = x.above in omega arith), tt);
        bad = (omega arith, 0, refl, inl refl);
      },
    ),
  ),
  (λ x. x (record { a_frame = omega arith; low = omega arith; high = omega arith })),
  (λ x. x.entries.1.0 Shared (omega arith, 0, refl, inl refl)),
)

-- Words of tables of 512 entries over pages of 4 KiB, as code makes and reads them.
use Rattle.std.proofs.Common.{◌≡◌, ◌≢◌, ℕ, zero, suc, ◌+◌, ◌-◌, ◌*◌, ◌/◌, ◌%◌, ◌^◌, ◌<◌, ◌≤◌, ◌↔◌, refl, ap, sym, ◌∙◌, subst, arith, true, inl, inr}
use Rattle.std.specs.Prelude.{IsTrue, bit_and, bit_or, IsBitSet, ◌==◌}
use Rattle.std.specs.Int.Bits.{or_zero_l, or_zero_r, and_zero_r}
use Rattle.std.proofs.lemmas.Nat.{mul-le, pow-add, shl_whole, shr_split, shr_high, pow_pos, or_shifted, or_comm, and_block}
use Rattle.std.proofs.lemmas.Bool.{cases_lt}
use Rattle.std.proofs.lemmas.Grind.{common_steps}
use Rattle.pt_model.specs.declared.block.Prot.{Prot}
use Rattle.pt_model.specs.Layout.{Layout, is_size, level_of_size, page}
use Rattle.pt_format.specs.Words.{HasSizes, MayBeLeaves, GoBy, IsLeaf, IsPointer, IsWritten, a_leaf, a_pointer}
use Rattle.pt_format.specs.Manual.{IsOutput}
use Rattle.pt_format.specs.FourKib.{Entries, Tables, AreBits, AreTables, IsLeafOf, IsPointerOf, layout, leaf, pointer, size_bit}
use Rattle.pt_format.proofs.BitFacts.{or_low, and_low, one_bit_set}
use Rattle.pt_format.specs.FourKibLaws.{leaf_of_may, page_within, size_of_level, size_small}

-- bit 7 set above bits below it
or_size : (low level : ℕ) → low < 2 ^ 7 → bit_or low (size_bit level) ≡ low + size_bit level
or_size low zero h = omega (arith, or_zero_r low)
or_size low (suc level) h =
    let turned : bit_or low (1 * 2 ^ 7) ≡ 1 * 2 ^ 7 + low = or_comm low (1 * 2 ^ 7) ∙ or_shifted 1 7 low h in
    omega (arith, turned)

-- a leaf as it is built: the address, the bits of its permission, and PS
pub leaf_built : {e : Entries} → AreBits e → (level out : ℕ) (prot : Prot) (address with_permission word : ℕ) → IsTrue (e.states prot) →
    out < 2 ^ 40 → address ≡ out * 2 ^ 12 % 2 ^ 64 → with_permission ≡ bit_or address (e.of_leaf prot) →
    word ≡ bit_or with_permission (size_bit level) → word ≡ leaf e level out prot
leaf_built {e} bits level out prot address with_permission word stated within a b c =
    let low = bits.leaf_low prot stated in
    let whole : address ≡ out * 2 ^ 12 + 0 = a ∙ shl_whole out 40 12 64 within (omega arith) ∙ omega arith in
    let first : with_permission ≡ out * 2 ^ 12 + e.of_leaf prot =
    b ∙ ap (λ n. bit_or n (e.of_leaf prot)) whole ∙ or_low 12 out 0 (e.of_leaf prot) (omega arith) (omega arith)
    ∙ ap (λ n. out * 2 ^ 12 + n) (or_zero_l (e.of_leaf prot)) in
    c ∙ ap (λ n. bit_or n (size_bit level)) first
    ∙ or_low 12 out (e.of_leaf prot) (size_bit level) (omega arith) (omega (arith, size_small level))
    ∙ ap (λ n. out * 2 ^ 12 + n) (or_size (e.of_leaf prot) level low)

-- a pointer as it is built
pub pointer_built : {e : Entries} → AreBits e → (address word : ℕ) → address % 2 ^ 12 ≡ 0 → word ≡ bit_or address e.of_pointer →
    word ≡ pointer e address
pointer_built {e} bits address word whole is =
    let low = bits.pointer_low in
    let split : address ≡ address / 2 ^ 12 * 2 ^ 12 + 0 = omega (arith, shr_split address 12) in
    let or : bit_or (address / 2 ^ 12 * 2 ^ 12 + 0) e.of_pointer ≡ address / 2 ^ 12 * 2 ^ 12 + e.of_pointer =
    or_low 12 (address / 2 ^ 12) 0 e.of_pointer (omega arith) (omega arith) ∙ ap (λ n. address / 2 ^ 12 * 2 ^ 12 + n) (or_zero_l e.of_pointer) in
    omega (arith, is ∙ ap (λ n. bit_or n e.of_pointer) split ∙ or)

-- what is read back from a leaf: its output page, and the bits of its permission
pub leaf_out : {e : Entries} → AreBits e → {level word out : ℕ} {prot : Prot} → IsLeafOf e level word out prot → word / 2 ^ 12 % 2 ^ 40 ≡ out
leaf_out {e} bits {level} {word} {out} {prot} is =
    let low = bits.leaf_low prot is.stated in
    let within = is.in_output in
    let few : e.of_leaf prot + size_bit level < 2 ^ 12 = omega (arith, size_small level) in
    ap (λ n. n / 2 ^ 12 % 2 ^ 40) is.word_is ∙ rw (shr_high out 12 (e.of_leaf prot + size_bit level) few) (omega arith)

size_whole : (level : ℕ) → size_bit level % 2 ^ 7 ≡ 0
size_whole zero = refl
size_whole (suc level) = refl

pub leaf_bits : {e : Entries} → AreBits e → {level word out : ℕ} {prot : Prot} → IsLeafOf e level word out prot → word % 2 ^ 7 ≡ e.of_leaf prot
leaf_bits {e} bits {level} {word} {out} {prot} is = let low = bits.leaf_low prot is.stated in omega (arith, is.word_is, size_whole level)

-- bit 7 of a leaf above the lowest level, and of a pointer
seven_set : (n hi low : ℕ) → low < 2 ^ 7 → n ≡ (2 * hi + 1) * 2 ^ 7 + low → bit_and n 128 ≡ 128
seven_set n hi low h e =
    let odd : (2 * hi + 1) ≡ hi * 2 ^ 1 + 1 = omega arith in
    let last : bit_and (2 * hi + 1) 1 ≡ 1 = ap (λ m. bit_and m 1) odd ∙ and_low 1 hi 1 1 (omega arith) (omega arith) in
    let block = and_block 7 (2 * hi + 1) 1 low 0 h (omega arith) in
    let both : bit_and n 128 ≡ bit_and (2 * hi + 1) 1 * 2 ^ 7 + bit_and low 0 = ap (λ m. bit_and m 128) e ∙ block in
    omega (arith, both, last, and_zero_r low)

seven_clear : (n hi low : ℕ) → low < 2 ^ 7 → n ≡ (2 * hi) * 2 ^ 7 + low → bit_and n 128 ≡ 0
seven_clear n hi low h e =
    let even : (2 * hi) ≡ hi * 2 ^ 1 + 0 = omega arith in
    let last : bit_and (2 * hi) 1 ≡ 0 = ap (λ m. bit_and m 1) even ∙ and_low 1 hi 0 1 (omega arith) (omega arith) in
    let block = and_block 7 (2 * hi) 1 low 0 h (omega arith) in
    let both : bit_and n 128 ≡ bit_and (2 * hi) 1 * 2 ^ 7 + bit_and low 0 = ap (λ m. bit_and m 128) e ∙ block in
    omega (arith, both, last, and_zero_r low)

leaf_size : {e : Entries} → AreBits e → (level out : ℕ) (prot : Prot) → IsTrue (e.states prot) → bit_and (leaf e (suc level) out prot) 128 ≡ 128
leaf_size {e} bits level out prot stated =
    seven_set (leaf e (suc level) out prot) (out * 2 ^ 4) (e.of_leaf prot) (bits.leaf_low prot stated) (omega arith)

pointer_size : {e : Entries} → AreBits e → (address frame : ℕ) → address ≡ 2 ^ 32 + frame * 2 ^ 12 → bit_and (pointer e address) 128 ≡ 0
pointer_size {e} bits address frame is =
    seven_clear (pointer e address) ((2 ^ 20 + frame) * 2 ^ 4) e.of_pointer bits.pointer_low (omega arith)

-- a written word is a leaf at level 0 and where PS is set, and else a pointer
pub leaf_at_lowest : (f : Layout) (word : ℕ) → IsWritten f 0 word → (log2 : ℕ) × (prot : Prot) × IsLeaf f 0 word log2 prot
leaf_at_lowest f word (a_leaf log2 prot l) = (log2, prot, l)
leaf_at_lowest f word (a_pointer address p) = absurd (let a = p.at_level.above in omega arith)

pub leaf_by_size : {t : Tables} → AreTables t → (level word : ℕ) → (bit_and word 128 == 128) ≡ true → IsWritten (layout t) level word →
    (log2 : ℕ) × (prot : Prot) × IsLeaf (layout t) level word log2 prot
leaf_by_size {t} good level word set (a_leaf log2 prot l) = (log2, prot, l)
leaf_by_size {t} good level word set (a_pointer address p) = absurd
    (let none : bit_and word 128 ≡ 0 = rw p.word_is (pointer_size good.bits address p.a_frame.frame p.a_frame.address_is) in
    let clear : ⊥ = cc in clear)

pub pointer_by_size : {t : Tables} → AreTables t → (level word : ℕ) → level ≢ 0 → (bit_and word 128 == 128) ≢ true → IsWritten (layout t) level word →
    (address : ℕ) × IsPointer (layout t) level word address
pointer_by_size {t} good zero word above clear w = absurd (above refl)
pointer_by_size {t} good (suc level) word above clear (a_leaf log2 prot l) = absurd
    (let all : bit_and word 128 ≡ 128 = rw l.word_is (leaf_size good.bits level l.out prot l.may.stated) in
    clear (rw all refl))
pointer_by_size {t} good (suc level) word above clear (a_pointer address p) = (address, p)

-- the address in a pointer
pub pointer_address : {e : Entries} → AreBits e → {level word address : ℕ} → IsPointerOf e level word address → word / 2 ^ 12 % 2 ^ 40 * 2 ^ 12 ≡ address
pointer_address {e} bits is =
    let frame = is.a_frame.in_limit in let at = is.a_frame.address_is in
    omega (arith, bits.pointer_low, is.word_is)

-- and such a word is a lawful leaf
pub leaf_from : (t : Tables) (level word out : ℕ) (prot : Prot) → level < t.levels → IsLeafOf t.entries level word out prot →
    IsLeaf (layout t) level word (9 * level) prot
leaf_from t zero word out prot below h = record { out = out; part = 0; may = record { below = below; a_size = refl; at_level = refl; aligned = h.aligned; within = (let a = h.in_output in omega arith); stated = h.stated; a_part = (omega arith) }; word_is = h.word_is }
leaf_from t (suc zero) word out prot below h = record { out = out; part = 0; may = record { below = below; a_size = refl; at_level = refl; aligned = h.aligned; within = (let a = h.in_output in let b = h.aligned in omega arith); stated = h.stated; a_part = (omega arith) }; word_is = h.word_is }
leaf_from t (suc (suc zero)) word out prot below h = record { out = out; part = 0; may = record { below = below; a_size = refl; at_level = refl; aligned = h.aligned; within = (let a = h.in_output in let b = h.aligned in omega arith); stated = h.stated; a_part = (omega arith) }; word_is = h.word_is }
leaf_from t (suc (suc (suc k))) word out prot below h = absurd (let a = h.low_level in omega arith)

-- the mask of the one size of a level, and of a level above the tables of 1 GiB
one_size : (t : Tables) (level k : ℕ) → level < 3 →
    IsBitSet (2 ^ (9 * level)) k ↔ (IsTrue (is_size (layout t) k) × (level_of_size (layout t) k ≡ level))
one_size t level k low = (
  (λ set. let same : 9 * level ≡ k = (one_bit_set (9 * level) k).0 set in (grind (arith, common_steps), grind (arith, common_steps))),
  (λ size. (one_bit_set (9 * level) k).1 (size_of_level t level k size.0 size.1).0),
)

no_size : (t : Tables) (level k : ℕ) → 3 ≤ level → IsBitSet 0 k ↔ (IsTrue (is_size (layout t) k) × (level_of_size (layout t) k ≡ level))
no_size t level k high = (
  (λ set. absurd (set refl)),
  (λ size. absurd (let s = size_of_level t level k size.0 size.1 in omega (arith, s.1))),
)

pub mask_is : (t : Tables) (level mask : ℕ) → (level < 3 → mask ≡ 2 ^ (9 * level)) → (3 ≤ level → mask ≡ 0) → HasSizes (layout t) level mask
mask_is t level mask one none k = elim (cases_lt level 3) [
  | inl low ↦ rw (one low) (one_size t level k low)
  | inr high ↦ rw (none high) (no_size t level k high)
]

-- the output page of a page by a leaf, and its bound
pub output_is : {t : Tables} → AreTables t → (level word here : ℕ) →
    IsOutput (layout t) level word here (word / 2 ^ 12 % 2 ^ 40 + here % 2 ^ (9 * level))
output_is {t} good level word here log2 prot l =
    let of = leaf_of_may word l.may l.word_is in
    good.read.leaf_is level word l.out here prot of
    ∙ ap (λ (n : ℕ). page (n + here % 2 ^ (9 * level)) prot) (sym (leaf_out good.bits of))

pub leaf_within : {t : Tables} → AreTables t → (level word here log2 : ℕ) (prot : Prot) → IsLeaf (layout t) level word log2 prot →
    word / 2 ^ 12 % 2 ^ 40 + here % 2 ^ (9 * level) < 2 ^ 40
leaf_within {t} good level word here log2 prot l =
    let of = leaf_of_may word l.may l.word_is in
    rw (leaf_out good.bits of) (page_within level l.out here of.low_level of.in_output of.aligned)

one_word : (k : ℕ) → k ≡ 0 → 2 ^ k ≡ 1
one_word k e = ap (λ (j : ℕ). 2 ^ j) e

by_one : (e m : ℕ) → m ≡ 1 → e / m ≡ e
by_one e m is = ap (λ (k : ℕ). e / k) is ∙ (let z : e / 1 ≡ e = omega arith in z)

-- Equal blocks that follow each other.
module _ {t : Tables} (good : AreTables t) (level log2 out : ℕ) (prot : Prot) (count : ℕ) (some : 1 ≤ count)
    (leaves : MayBeLeaves (layout t) level log2 out prot count) where
  first : 0 < count * 2 ^ (log2 - 9 * level)
  first = let w = pow_pos (log2 - 9 * level) in let h = mul-le 1 1 count (2 ^ (log2 - 9 * level)) some (omega arith) in omega arith

  size : (9 * level ≡ log2) × (level < 3)
  size = let may = leaves 0 first in size_of_level t level log2 may.a_size may.at_level

  pub size_few : log2 < 52
  size_few = let low = size.0 in let few = size.1 in omega arith

  place : (n : ℕ) → n < count * 2 ^ (log2 - 9 * level) → n / 2 ^ (log2 - 9 * level) ≡ n
  place n less = by_one n (2 ^ (log2 - 9 * level)) (one_word (log2 - 9 * level) (let e = size.0 in omega arith))

  leaf_more : (pages : ℕ) → leaf t.entries level (out + pages) prot ≡ leaf t.entries level out prot + pages * 2 ^ 12
  leaf_more pages = omega arith

  sum : (n by : ℕ) → by ≡ 2 ^ (12 + log2) → n * 2 ^ log2 * 2 ^ 12 ≡ n * by
  sum n by is = (let g : n * 2 ^ log2 * 2 ^ 12 ≡ n * (2 ^ 12 * 2 ^ log2) = omega arith in g)
      ∙ ap (λ (k : ℕ). n * k) (sym (pow-add 2 12 log2)) ∙ ap (λ (k : ℕ). n * k) (sym is)

  -- their words go by the step of their size
  pub run_of : (by : ℕ) → by ≡ 2 ^ (12 + log2) → GoBy (layout t) level log2 out prot count by
  run_of by is = record {
    goes = λ n less.
        ap (λ (q : ℕ). leaf t.entries level (out + q * 2 ^ log2) prot) (place n less)
        ∙ leaf_more (n * 2 ^ log2)
        ∙ ap (λ (s : ℕ). leaf t.entries level out prot + s) (sum n by is);
    within = λ n less.
        let may = leaves n less in
        let low = good.bits.leaf_low prot may.stated in
        let block : out + n * 2 ^ log2 + 2 ^ log2 ≤ 2 ^ 40 =
        subst (λ (q : ℕ). out + q * 2 ^ log2 + 2 ^ log2 ≤ 2 ^ 40) (place n less) may.within in
        let pages = pow_pos log2 in
        let s = sum n by is in
        let small = size_small level in
        omega arith;
  }

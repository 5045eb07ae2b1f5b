-- Words of VMSAv8-64 tables, as code makes and reads them.
use Rattle.std.proofs.Common.{◌≡◌, ◌≢◌, ℕ, zero, suc, ◌+◌, ◌-◌, ◌*◌, ◌/◌, ◌%◌, ◌^◌, ◌<◌, ◌≤◌, refl, ap, subst, sym, ◌∙◌, arith, true, false, Bool}
use Rattle.std.specs.Prelude.{IsTrue, bit_and, bit_or, ◌==◌, not, if◌then◌else◌}
use Rattle.std.specs.Int.Bits.{and_block, and_zero_r, or_block, or_zero_l, or_zero_r}
use Rattle.std.proofs.lemmas.Nat.{mul-le, pow-add, pow_pos}
use Rattle.std.proofs.Math.Nat.{div-add-mod}
use Rattle.std.proofs.Math.Pow.{pow_mono}
use Rattle.pt_model.specs.declared.block.Prot.{Prot}
use Rattle.pt_model.specs.declared.block.Prot.TheVariants.{Read, ReadWrite}
use Rattle.pt_model.specs.Layout.{is_common, may_write}
use Rattle.pt_format.specs.Words.{MayBeLeaf, MayBeLeaves, GoBy, IsLeaf, IsPointer, IsWritten, a_leaf, a_pointer, words_in}
use Rattle.pt_format.proofs.BitFacts.{and_end, or_low}
use Rattle.pt_format.proofs.Permissions.{of_common}
use Rattle.pt_manual.specs.VmsaWalk.{IsGranule}
use Rattle.fmt_vmsa.specs.VmsaWords.{IsEntry, entry_size, entry_word, in_group, layout, leaf, of_leaf, pointer}
use Rattle.fmt_vmsa.specs.Granules.{by_granule, granule_range, room}
use Rattle.fmt_vmsa.specs.VmsaFacts.{leaf_small, low_of, page_of, upper_leaf}
use Rattle.fmt_vmsa.specs.VmsaSizes.{at_least, entry_of, leaf_size}
use Rattle.fmt_vmsa.specs.VmsaLaws.{pointer_low}

-- own pages in bytes
pub bytes_below : {granule : ℕ} → IsGranule granule → (own : ℕ) → own < 2 ^ (48 - granule) → own * 2 ^ granule < 2 ^ 48
bytes_below is own within =
    by_granule (λ g. own < 2 ^ (48 - g) → own * 2 ^ g < 2 ^ 48) (λ w. omega arith) (λ w. omega arith) (λ w. omega arith) is within

-- bits set below own pages, and above them
pub with_bits : (granule own low : ℕ) → 12 ≤ granule → low < 2 ^ 12 → bit_or (own * 2 ^ granule) low ≡ own * 2 ^ granule + low
with_bits granule own low some small =
    let most : 2 ^ 12 ≤ 2 ^ granule = pow_mono some in
    let split : own * 2 ^ granule ≡ own * 2 ^ granule + 0 = omega arith in
    ap (λ n. bit_or n low) split ∙ or_low granule own 0 low (omega arith) (omega arith) ∙ ap (λ n. own * 2 ^ granule + n) (or_zero_l low)

pub with_group : (word : ℕ) → word < 2 ^ 52 → bit_or word (2 ^ 52) ≡ word + 2 ^ 52
with_group word low =
    let split : word ≡ 0 * 2 ^ 52 + word = omega arith in
    let one : 2 ^ 52 ≡ 1 * 2 ^ 52 + 0 = omega arith in
    let block : bit_or (0 * 2 ^ 52 + word) (1 * 2 ^ 52 + 0) ≡ 1 * 2 ^ 52 + bit_or word 0 = or_block 52 0 1 word 0 low (omega arith) in
    ap (λ n. bit_or n (2 ^ 52)) split ∙ ap (bit_or (0 * 2 ^ 52 + word)) one ∙ block
    ∙ (let z = or_zero_r word in let s : 1 * 2 ^ 52 + bit_or word 0 ≡ word + 2 ^ 52 = omega (arith, z) in s)

-- an entry as it is built
pub entry_built : {granule : ℕ} → IsGranule granule → (level own : ℕ) (prot : Prot) → own < 2 ^ (48 - granule) → IsTrue (is_common prot) →
    (bit_or (own * 2 ^ granule) (of_leaf level prot) ≡ entry_word granule level own prot false)
    × (bit_or (bit_or (own * 2 ^ granule) (of_leaf level prot)) (2 ^ 52) ≡ entry_word granule level own prot true)
entry_built {granule} is level own prot within stated =
    let small = leaf_small level prot stated in
    let bytes = bytes_below is own within in
    let low = with_bits granule own (of_leaf level prot) (granule_range is).0 small in (
      low ∙ (let s : own * 2 ^ granule + of_leaf level prot ≡ own * 2 ^ granule + (of_leaf level prot + 0) = omega arith in s),
      ap (λ n. bit_or n (2 ^ 52)) low ∙ with_group (own * 2 ^ granule + of_leaf level prot) (omega arith)
          ∙ (let s : own * 2 ^ granule + of_leaf level prot + 2 ^ 52 ≡ own * 2 ^ granule + (of_leaf level prot + 2 ^ 52) = omega arith in s),
    )

-- a pointer as it is built
pub pointer_built : (address : ℕ) → address % 2 ^ 12 ≡ 0 → bit_or (bit_or address 1) 2 ≡ pointer address
pointer_built address aligned =
    let split : address ≡ address / 2 ^ 12 * 2 ^ 12 + 0 = omega arith in
    let first : bit_or address 1 ≡ address / 2 ^ 12 * 2 ^ 12 + 1 =
    ap (λ n. bit_or n 1) split ∙ or_low 12 (address / 2 ^ 12) 0 1 (omega arith) (omega arith)
    ∙ ap (λ n. address / 2 ^ 12 * 2 ^ 12 + n) (or_zero_l 1) in
    ap (λ n. bit_or n 2) first ∙ or_low 12 (address / 2 ^ 12) 1 2 (omega arith) (omega arith)
    ∙ (let s : address / 2 ^ 12 * 2 ^ 12 + 3 ≡ pointer address = omega arith in s)

-- what is read back of an entry
module _ {granule : ℕ} (is : IsGranule granule) {level own word : ℕ} {prot : Prot} {contiguous : Bool}
    (x : IsEntry granule level own word prot contiguous) where
  small : of_leaf level prot < 2 ^ 12
  small = leaf_small level prot x.stated

  pub own_page : word % 2 ^ 48 / 2 ^ granule ≡ own
  own_page = ap (λ n. n % 2 ^ 48 / 2 ^ granule) x.word_is ∙ page_of is own (of_leaf level prot) x.within small contiguous

  pub own_low : word % 2 ^ 12 ≡ of_leaf level prot
  own_low = ap (λ n. n % 2 ^ 12) x.word_is ∙ low_of is own (of_leaf level prot) x.within small contiguous

  own_bit : (level : ℕ) (prot : Prot) → IsTrue (is_common prot) → bit_and (of_leaf level prot) 128 ≡ (if may_write prot then 0 else 128)
  own_bit zero = of_common (λ p. bit_and (of_leaf 0 p) 128 ≡ (if may_write p then 0 else 128)) refl refl
  own_bit (suc l) =
      of_common (λ p. bit_and (of_leaf (suc l) p) 128 ≡ (if may_write p then 0 else 128)) (rw (upper_leaf (suc l) Read (omega arith)) refl)
      (rw (upper_leaf (suc l) ReadWrite (omega arith)) refl)

  read_only : bit_and word 128 ≡ (if may_write prot then 0 else 128)
  read_only = and_end 12 word (of_leaf level prot) 128 own_low (omega arith) ∙ own_bit level prot x.stated

  pub read_by_bit : (bit_and word 128 == 128) ≡ true → Read ≡ prot
  read_by_bit set = of_common (λ p. bit_and word 128 ≡ (if may_write p then 0 else 128) → Read ≡ p)
      (λ e. refl) (λ e. absurd (let clear : ⊥ = cc in clear)) prot x.stated read_only

  pub both_by_bit : (bit_and word 128 == 128) ≡ false → ReadWrite ≡ prot
  both_by_bit clear = of_common (λ p. bit_and word 128 ≡ (if may_write p then 0 else 128) → ReadWrite ≡ p)
      (λ e. absurd (let set : ⊥ = cc in set)) (λ e. refl) prot x.stated read_only

  top_bit : (high low : ℕ) → low < 2 ^ 52 → bit_and (high * 2 ^ 52 + low) (2 ^ 52) ≡ bit_and high 1 * 2 ^ 52
  top_bit high low few =
      let both : bit_and (high * 2 ^ 52 + low) (2 ^ 52) ≡ bit_and high 1 * 2 ^ 52 + bit_and low 0 =
      and_block 52 high 1 low 0 few (omega arith) in
      omega (arith, both, and_zero_r low)

  pub group_bit : (bit_and word (2 ^ 52) == 2 ^ 52) ≡ contiguous
  group_bit = marked contiguous x.word_is
    where
      low : own * 2 ^ granule + of_leaf level prot < 2 ^ 52
      low = let s = small in let b = bytes_below is own x.within in omega arith

      marked : (group : Bool) → word ≡ entry_word granule level own prot group → (bit_and word (2 ^ 52) == 2 ^ 52) ≡ group
      marked true e =
          let split : word ≡ 1 * 2 ^ 52 + (own * 2 ^ granule + of_leaf level prot) = omega (arith, e) in
          ap (λ n. bit_and n (2 ^ 52) == 2 ^ 52) split ∙ ap (λ n. n == 2 ^ 52) (top_bit 1 (own * 2 ^ granule + of_leaf level prot) low)
      marked false e =
          let split : word ≡ 0 * 2 ^ 52 + (own * 2 ^ granule + of_leaf level prot) = omega (arith, e) in
          ap (λ n. bit_and n (2 ^ 52) == 2 ^ 52) split ∙ ap (λ n. n == 2 ^ 52) (top_bit 0 (own * 2 ^ granule + of_leaf level prot) low)

-- an entry is of 64 bits
pub entry_few : {granule : ℕ} → IsGranule granule → {level own word : ℕ} {prot : Prot} {contiguous : Bool} →
    IsEntry granule level own word prot contiguous → word < 2 ^ 64
entry_few is {level} {own} {word} {prot} {contiguous} x =
    let low = leaf_small level prot x.stated in
    let bytes = bytes_below is own x.within in
    let mark = few contiguous in
    let w = x.word_is in
    omega arith
  where
    few : (c : Bool) → in_group c ≤ 2 ^ 52
    few true = omega arith
    few false = omega arith

module _ {granule : ℕ} (is : IsGranule granule) where
  -- a written word above the lowest level is a leaf where it is of a block's kind, and else a pointer
  pub leaf_by_kind : (level word : ℕ) → (bit_and word 2 == 2) ≢ true → IsWritten (layout granule) level word →
      (log2 : ℕ) × (prot : Prot) × IsLeaf (layout granule) level word log2 prot
  leaf_by_kind level word block (a_leaf log2 prot l) = (log2, prot, l)
  leaf_by_kind level word block (a_pointer address p) = absurd
      (let kind : bit_and word 2 ≡ 2 =
      ap (λ n. bit_and n 2) p.word_is ∙ and_end 12 (pointer address) 3 2 (pointer_low is address p.a_frame) (omega arith) in
      block (rw kind refl))

  pub pointer_by_kind : (level word : ℕ) → level ≢ 0 → (bit_and word 2 == 2) ≡ true → IsWritten (layout granule) level word →
      (address : ℕ) × IsPointer (layout granule) level word address
  pointer_by_kind level word upper table (a_leaf log2 prot l) = absurd
      (let x = entry_of is l.may word l.word_is in
      let low : word % 2 ^ 12 ≡ of_leaf 1 prot = own_low is x ∙ upper_leaf level prot (omega arith) in
      let kind : bit_and word 2 ≡ 0 =
      and_end 12 word (of_leaf 1 prot) 2 low (omega arith) ∙ of_common (λ p. bit_and (of_leaf 1 p) 2 ≡ 0) refl refl prot x.stated in
      let none : ⊥ = cc in none)
  pointer_by_kind level word upper table (a_pointer address p) = (address, p)

  -- the pages before a part, as code shifts them
  pub part_pages : {level log2 out part : ℕ} {prot : Prot} → MayBeLeaf (layout granule) level log2 out prot part →
      part * 2 ^ entry_size granule level % 2 ^ 64 ≡ part * 2 ^ entry_size granule level
  part_pages {level} {log2} {out} {part} {prot} may =
      let x = entry_of is may (leaf granule level log2 out prot part) refl in
      let within = x.within in
      let less : 48 - granule ≤ 48 = omega arith in
      let most : 2 ^ (48 - granule) ≤ 2 ^ 48 = pow_mono less in
      omega arith

  -- The words of equal blocks that follow each other go by the bytes of an entry.
  module _ (level log2 out : ℕ) (prot : Prot) (count : ℕ) (some : 1 ≤ count)
      (leaves : MayBeLeaves (layout granule) level log2 out prot count) where
    first : 0 < count * words_in (layout granule) level log2
    first =
        let w = pow_pos (log2 - entry_size granule level) in
        let h = mul-le 1 1 count (words_in (layout granule) level log2) some (omega arith) in
        omega arith

    pub run_level : level < 4
    run_level = let may = leaves 0 first in let low = (room is level (leaf_size is may).leaves).low in omega arith

    block : 2 ^ log2 ≡ words_in (layout granule) level log2 * 2 ^ entry_size granule level
    block =
        let low = at_least is (leaves 0 first) in
        let split : log2 ≡ log2 - entry_size granule level + entry_size granule level = omega arith in
        ap (λ (k : ℕ). 2 ^ k) split ∙ pow-add 2 (log2 - entry_size granule level) (entry_size granule level)

    -- the own pages of entry number n
    own_pages : (n words : ℕ) → words ≡ words_in (layout granule) level log2 →
        out + n / words * 2 ^ log2 + n % words * 2 ^ entry_size granule level ≡ out + n * 2 ^ entry_size granule level
    own_pages n words is' =
        let split : n ≡ n / words * words + n % words = omega (arith, div-add-mod n words) in
        let wide : n / words * 2 ^ log2 ≡ n / words * (words * 2 ^ entry_size granule level) =
        ap (λ w. n / words * w) (block ∙ ap (λ w. w * 2 ^ entry_size granule level) (sym is')) in
        let all : n * 2 ^ entry_size granule level ≡ (n / words * words + n % words) * 2 ^ entry_size granule level =
        ap (λ m. m * 2 ^ entry_size granule level) split in
        omega arith

    goes : (n : ℕ) →
        leaf granule level log2 (out + n / words_in (layout granule) level log2 * 2 ^ log2) prot (n % words_in (layout granule) level log2)
        ≡ leaf granule level log2 out prot 0 + n * 2 ^ (granule + entry_size granule level)
    goes n =
        let group : Bool = not (log2 == entry_size granule level) in
        let bytes : n * 2 ^ (granule + entry_size granule level) ≡ n * (2 ^ granule * 2 ^ entry_size granule level) =
        ap (λ w. n * w) (pow-add 2 granule (entry_size granule level)) in
        ap (λ o. entry_word granule level o prot group) (own_pages n (words_in (layout granule) level log2) refl)
        ∙ (let sum : entry_word granule level (out + n * 2 ^ entry_size granule level) prot group
        ≡ entry_word granule level (out + 0 * 2 ^ entry_size granule level) prot group + n * 2 ^ (granule + entry_size granule level) =
        omega arith in sum)

    pub entries_run : GoBy (layout granule) level log2 out prot count (2 ^ (granule + entry_size granule level))
    entries_run = record {
      goes = λ n less. goes n;
      within = λ n less. subst (λ w. w < 2 ^ 64) (goes n) (entry_few is (entry_of is (leaves n less) _ refl));
    }

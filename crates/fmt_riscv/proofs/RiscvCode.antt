-- Words of RISC-V tables, as code makes and reads them.
use Rattle.std.proofs.Common.{◌≡◌, ◌≢◌, ℕ, zero, suc, ◌+◌, ◌-◌, ◌*◌, ◌/◌, ◌%◌, ◌^◌, ◌<◌, ◌≤◌, inl, inr, refl, ap, sym, ◌∙◌, subst, arith, true, false}
use Rattle.std.specs.Prelude.{IsTrue, bit_and, bit_or, ◌==◌}
use Rattle.std.specs.Int.Bits.{or_zero_l, and_zero_r}
use Rattle.std.proofs.lemmas.Nat.{and_block, mod_below, mul-le, pow-add, pow_pos}
use Rattle.pt_model.specs.declared.block.Prot.{Prot}
use Rattle.pt_model.specs.Layout.{is_common, is_size, level_of_size, page}
use Rattle.pt_format.specs.Words.{HasSizes, MayBeLeaves, GoBy, IsLeaf, IsPointer, IsWritten, a_leaf, a_pointer}
use Rattle.pt_format.specs.Manual.{IsOutput}
use Rattle.pt_format.proofs.BitFacts.{and_end, one_bit_set, place_bit, or_bit, or_low}
use Rattle.pt_format.proofs.Permissions.{of_common}
use Rattle.pt_manual.specs.RiscvWalk.{number_in}
use Rattle.fmt_nine_bit.proofs.BlockFacts.{room_above}
use Rattle.fmt_riscv.specs.RiscvWords.{AreLevels, IsPermissionIn, IsPointerOf, IsSingle, IsSixteen, layout, leaf, of_leaf, pointer, single, sixteen}
use Rattle.fmt_riscv.specs.Sizes.{IsSizeOf, an_entry, of_sixteen, entry_size, size_of, sixteen_size}
use Rattle.fmt_riscv.specs.RiscvFacts.{leaf_of_entry, leaf_small, not_four}
use Rattle.fmt_riscv.specs.RiscvLaws.{a_single, a_sixteen, few, leaf_found, leaf_word}

-- what is read back: the page number, and the bits below it
pub single_number : {level out word : ℕ} {prot : Prot} → IsSingle level out word prot → number_in word ≡ out
single_number {level} {out} {word} {prot} x = let low = leaf_small prot x.stated in omega (arith, x.within, x.word_is)

pub sixteen_number : {out word : ℕ} {prot : Prot} → IsSixteen out word prot → number_in word ≡ out + 8
sixteen_number {out} {word} {prot} x = let low = leaf_small prot x.stated in omega (arith, x.within, x.word_is)

single_low : {level out word : ℕ} {prot : Prot} → IsSingle level out word prot → word % 2 ^ 10 ≡ of_leaf prot
single_low {level} {out} {word} {prot} x = let low = leaf_small prot x.stated in omega (arith, x.word_is)

sixteen_low : {out word : ℕ} {prot : Prot} → IsSixteen out word prot → word % 2 ^ 10 ≡ of_leaf prot
sixteen_low {out} {word} {prot} x = let low = leaf_small prot x.stated in omega (arith, x.word_is)

pub single_end : {level out word : ℕ} {prot : Prot} → IsSingle level out word prot → word % 2 ^ 7 ≡ of_leaf prot % 2 ^ 7
single_end {level} {out} {word} {prot} x = let low = single_low x in omega arith

pub sixteen_end : {out word : ℕ} {prot : Prot} → IsSixteen out word prot → word % 2 ^ 7 ≡ of_leaf prot % 2 ^ 7
sixteen_end {out} {word} {prot} x = let low = sixteen_low x in omega arith

-- what tells the permission of the low bits tells that of the word
pub permission_is : {word : ℕ} (result : Prot) →
    ((prot : Prot) → IsTrue (is_common prot) → word % 2 ^ 7 ≡ of_leaf prot % 2 ^ 7 → result ≡ prot) → IsPermissionIn word result
permission_is result tells = record {
  of_single = λ level out prot x. tells prot x.stated (single_end x);
  of_sixteen = λ out prot x. tells prot x.stated (sixteen_end x);
}

pub pointer_number : {level word address : ℕ} → IsPointerOf level word address → number_in word * 2 ^ 12 ≡ address
pointer_number p = let frame = p.a_frame.in_limit in let at = p.a_frame.address_is in omega (arith, p.word_is)

-- a pointer as it is built
pub pointer_built : (address word : ℕ) → address % 2 ^ 12 ≡ 0 → word ≡ bit_or (address / 2 ^ 2) 1 → word ≡ pointer address
pointer_built address word whole is =
    let split : address / 2 ^ 2 ≡ address / 2 ^ 12 * 2 ^ 10 + 0 = omega arith in
    let or = or_low 10 (address / 2 ^ 12) 0 1 (omega arith) (omega arith) in
    is ∙ ap (λ n. bit_or n 1) split ∙ or ∙ ap (λ n. address / 2 ^ 12 * 2 ^ 10 + n) (or_zero_l 1)

-- R of a leaf and of a pointer, and N of both kinds of leaf
read_set : (word : ℕ) (prot : Prot) → IsTrue (is_common prot) → word % 2 ^ 10 ≡ of_leaf prot → bit_and word 2 ≡ 2
read_set word prot stated e =
    and_end 10 word (of_leaf prot) 2 e (omega arith) ∙ of_common (λ p. bit_and (of_leaf p) 2 ≡ 2) refl refl prot stated

read_clear : (address : ℕ) → bit_and (pointer address) 2 ≡ 0
read_clear address = and_end 10 (pointer address) 1 2 (omega arith) (omega arith)

pub sixteen_top : {out word : ℕ} {prot : Prot} → IsSixteen out word prot → bit_and word (2 ^ 63) ≡ 2 ^ 63
sixteen_top {out} {word} {prot} x =
    let low = leaf_small prot x.stated in
    let is : word ≡ 1 * 2 ^ 63 + ((out + 2 ^ 3) * 2 ^ 10 + of_leaf prot) = omega (arith, x.word_is) in
    ap (λ n. bit_and n (2 ^ 63)) is ∙ place_bit 63 1 ((out + 2 ^ 3) * 2 ^ 10 + of_leaf prot) (omega (arith, x.within))

pub single_top : {level out word : ℕ} {prot : Prot} → IsSingle level out word prot → bit_and word (2 ^ 63) ≡ 0
single_top {level} {out} {word} {prot} x =
    let low = leaf_small prot x.stated in
    let is : word ≡ 0 * 2 ^ 63 + (out * 2 ^ 10 + of_leaf prot) = omega (arith, x.word_is) in
    ap (λ n. bit_and n (2 ^ 63)) is ∙ place_bit 63 0 (out * 2 ^ 10 + of_leaf prot) (omega (arith, x.within))

-- such words are lawful leaves
room : (level out : ℕ) → level < 5 → out < 2 ^ 44 → out % 2 ^ (9 * level) ≡ 0 → out + 2 ^ (9 * level) ≤ 2 ^ 44
room level out low within aligned = room_above out (9 * level) 44 (omega arith) within aligned

pub single_leaf : {levels : ℕ} → AreLevels levels → {level out word : ℕ} {prot : Prot} → level < levels → IsSingle level out word prot →
    IsLeaf (layout levels) level word (9 * level) prot
single_leaf {levels} are {level} {out} {word} {prot} below x =
    let size = entry_size levels level are below in
    let low : level < 5 = let high = (few are).1 in omega arith in
    record {
      out = out;
      part = 0;
      may = record {
        below = below;
        a_size = size.0;
        at_level = size.1;
        aligned = x.aligned;
        within = room level out low x.within x.aligned;
        stated = x.stated;
        a_part = pow_pos (9 * level - 9 * level);
      };
      word_is = x.word_is ∙ sym (leaf_of_entry (9 * level) out prot (not_four level));
    }

pub sixteen_leaf : {levels : ℕ} → AreLevels levels → {level out word : ℕ} {prot : Prot} → level ≡ 0 → IsSixteen out word prot →
    IsLeaf (layout levels) level word 4 prot
sixteen_leaf {levels} are {level} {out} {word} {prot} lowest x =
    let low = (few are).0 in
    record {
      out = out;
      part = 0;
      may = record {
        below = omega arith;
        a_size = sixteen_size levels are;
        at_level = sym lowest;
        aligned = x.aligned;
        within = x.within;
        stated = x.stated;
        a_part = pow_pos (4 - 9 * level);
      };
      word_is = x.word_is;
    }

-- a written word is a leaf where R is set, and else a pointer
pub leaf_by_read : {levels : ℕ} → AreLevels levels → (level word : ℕ) → (bit_and word 2 == 2) ≡ true → IsWritten (layout levels) level word →
    (log2 : ℕ) × (prot : Prot) × IsLeaf (layout levels) level word log2 prot
leaf_by_read {levels} are level word set (a_leaf log2 prot l) = (log2, prot, l)
leaf_by_read {levels} are level word set (a_pointer address p) = absurd
    (let none : bit_and word 2 ≡ 0 = ap (λ n. bit_and n 2) p.word_is ∙ read_clear address in
    let clear : ⊥ = cc in clear)

pub pointer_by_read : {levels : ℕ} → AreLevels levels → (level word : ℕ) → (bit_and word 2 == 2) ≢ true → IsWritten (layout levels) level word →
    (address : ℕ) × IsPointer (layout levels) level word address
pointer_by_read {levels} are level word clear (a_leaf log2 prot l) = absurd
    (let all : bit_and word 2 ≡ 2 = elim (leaf_word are level log2 l.out l.part word prot l.may l.word_is).0 [
      | a_single s x ↦ read_set word prot x.stated (single_low x)
      | a_sixteen z s x ↦ read_set word prot x.stated (sixteen_low x)
    ] in
    clear (rw all refl))
pointer_by_read {levels} are level word clear (a_pointer address p) = (address, p)

-- the mask of the lowest level, and of each other
pub low_mask : {levels : ℕ} → AreLevels levels → HasSizes (layout levels) 0 0x11
low_mask {levels} are k = (
  λ set. elim ((or_bit 1 16 k).0 set) [
    | inl one ↦ (let is : 0 ≡ k = (one_bit_set 0 k).0 one in
        subst (λ j. IsTrue (is_size (layout levels) j) × (level_of_size (layout levels) j ≡ 0)) is (entry_size levels 0 are (let low = (few are).0 in omega arith)))
    | inr one ↦ (let is : 4 ≡ k = (one_bit_set 4 k).0 one in
        subst (λ j. IsTrue (is_size (layout levels) j) × (level_of_size (layout levels) j ≡ 0)) is (sixteen_size levels are, refl))
  ],
  λ size. (or_bit 1 16 k).1 (elim (size_of levels 0 k are size.0 size.1).0 [
    | an_entry e ↦ inl ((one_bit_set 0 k).1 (sym e))
    | of_sixteen z e ↦ inr ((one_bit_set 4 k).1 (sym e))
  ]),
)

pub high_mask : {levels : ℕ} → AreLevels levels → (level : ℕ) → level ≢ 0 → level < levels → HasSizes (layout levels) level (2 ^ (9 * level))
high_mask {levels} are level some below k = (
  λ set. let is : 9 * level ≡ k = (one_bit_set (9 * level) k).0 set in
      subst (λ j. IsTrue (is_size (layout levels) j) × (level_of_size (layout levels) j ≡ level)) is (entry_size levels level are below),
  λ size. elim (size_of levels level k are size.0 size.1).0 [
    | an_entry e ↦ (one_bit_set (9 * level) k).1 (sym e)
    | of_sixteen z e ↦ absurd (some z)
  ],
)

-- Equal blocks that follow each other.
module _ {levels : ℕ} (are : AreLevels levels) (level log2 out : ℕ) (prot : Prot) (count : ℕ) (some : 1 ≤ count)
    (leaves : MayBeLeaves (layout levels) level log2 out prot count) where
  first : 0 < count * 2 ^ (log2 - 9 * level)
  first = let w = pow_pos (log2 - 9 * level) in let h = mul-le 1 1 count (2 ^ (log2 - 9 * level)) some (omega arith) in omega arith

  size : IsSizeOf level log2 × (level < levels)
  size = let may = leaves 0 first in size_of levels level log2 are may.a_size may.at_level

  pub size_few : log2 < 44
  size_few = let low = size.1 in let high = (few are).1 in elim size.0 [
    | an_entry e ↦ omega arith
    | of_sixteen z e ↦ omega arith
  ]

  stated : IsTrue (is_common prot)
  stated = (leaves 0 first).stated

  -- of sixteen pages each: one block
  pub sixteen_run : log2 ≡ 4 → GoBy (layout levels) level log2 out prot 1 0
  sixteen_run four = record {
    goes = λ n less.
        let low = fewer n less in
        let none : n / 2 ^ (log2 - 9 * level) ≡ 0 = ap (λ k. n / k) words_are ∙ (let z : n / 16 ≡ 0 = omega arith in z) in
        ap (λ q. leaf log2 (out + q * 2 ^ log2) prot) none
        ∙ (let same : out + 0 * 2 ^ log2 ≡ out = omega arith in ap (λ o. leaf log2 o prot) same)
        ∙ (let more : leaf log2 out prot ≡ leaf log2 out prot + n * 0 = omega arith in more);
    within = λ n less.
        let may = leaves 0 first in
        let w = leaf_word are level log2 (out + 0 / 2 ^ (log2 - 9 * level) * 2 ^ log2) (0 % 2 ^ (log2 - 9 * level)) _ prot may refl in
        let is : leaf log2 out prot ≡ sixteen out prot = ap (λ k. leaf k out prot) four in
        let room' : out + 16 ≤ 2 ^ 44 = block in
        let low = leaf_small prot stated in
        omega arith;
  }
    where
      lowest : level ≡ 0
      lowest = elim size.0 [
        | an_entry e ↦ absurd (not_four level (sym e ∙ four))
        | of_sixteen z e ↦ z
      ]

      words_are : 2 ^ (log2 - 9 * level) ≡ 16
      words_are = let k : log2 - 9 * level ≡ 4 = omega (arith, lowest, four) in ap (λ (j : ℕ). 2 ^ j) k

      fewer : (n : ℕ) → n < 1 * 2 ^ (log2 - 9 * level) → n < 16
      fewer n less = let w = words_are in omega arith

      block : out + 16 ≤ 2 ^ 44
      block =
          let may = leaves 0 first in
          let none : 0 / 2 ^ (log2 - 9 * level) ≡ 0 = ap (λ k. 0 / k) words_are in
          let size' : 2 ^ log2 ≡ 16 = ap (λ (j : ℕ). 2 ^ j) four in
          let there : out + 0 * 2 ^ log2 + 2 ^ log2 ≤ 2 ^ 44 = subst (λ q. out + q * 2 ^ log2 + 2 ^ log2 ≤ 2 ^ 44) none may.within in
          omega arith

  -- of what an entry maps: their words go by the step of their size
  pub single_run : log2 ≢ 4 → (by : ℕ) → by ≡ 2 ^ (10 + log2) → GoBy (layout levels) level log2 out prot count by
  single_run other by is = record {
    goes = λ n less.
        ap (λ (q : ℕ). leaf log2 (out + q * 2 ^ log2) prot) (place n less)
        ∙ leaf_of_entry log2 (out + n * 2 ^ log2) prot other
        ∙ (let s = sum n in let g : single (out + n * 2 ^ log2) prot ≡ single out prot + n * by = omega arith in g)
        ∙ ap (λ k. k + n * by) (sym (leaf_of_entry log2 out prot other));
    within = λ n less.
        let may = leaves n less in
        let low = leaf_small prot stated in
        let block : out + n * 2 ^ log2 + 2 ^ log2 ≤ 2 ^ 44 =
        subst (λ (q : ℕ). out + q * 2 ^ log2 + 2 ^ log2 ≤ 2 ^ 44) (place n less) may.within in
        let s = sum n in
        let word : leaf log2 out prot ≡ single out prot = leaf_of_entry log2 out prot other in
        omega arith;
  }
    where
      is_entry : log2 ≡ 9 * level
      is_entry = elim size.0 [
        | an_entry e ↦ e
        | of_sixteen z e ↦ absurd (other e)
      ]

      one : 2 ^ (log2 - 9 * level) ≡ 1
      one = let k : log2 - 9 * level ≡ 0 = omega (arith, is_entry) in ap (λ (j : ℕ). 2 ^ j) k

      place : (n : ℕ) → n < count * 2 ^ (log2 - 9 * level) → n / 2 ^ (log2 - 9 * level) ≡ n
      place n less = ap (λ (k : ℕ). n / k) one ∙ (let z : n / 1 ≡ n = omega arith in z)

      sum : (n : ℕ) → n * 2 ^ log2 * 2 ^ 10 ≡ n * by
      sum n = (let g : n * 2 ^ log2 * 2 ^ 10 ≡ n * (2 ^ 10 * 2 ^ log2) = omega arith in g)
          ∙ ap (λ (k : ℕ). n * k) (sym (pow-add 2 10 log2)) ∙ ap (λ (k : ℕ). n * k) (sym is)

-- the output page of a page by a leaf of each kind, and its bound
pub sixteen_output : {levels : ℕ} → AreLevels levels → (level word here : ℕ) → (bit_and word (2 ^ 63) == 2 ^ 63) ≡ true →
    IsOutput (layout levels) level word here (number_in word - 8 + here % 16)
sixteen_output {levels} are level word here top log2 prot l =
    elim (leaf_word are level log2 l.out l.part word prot l.may l.word_is).0 [
      | a_single s x ↦ absurd (let none : bit_and word (2 ^ 63) ≡ 0 = single_top x in let clear : ⊥ = cc in clear)
      | a_sixteen z s x ↦
          leaf_found are level log2 l.out l.part word here prot l.may l.word_is
          ∙ ap (λ k. page (l.out + here % 2 ^ k) prot) s
          ∙ (let is : l.out ≡ number_in word - 8 = let n = sixteen_number x in omega arith in ap (λ o. page (o + here % 16) prot) is)
    ]

pub single_output : {levels : ℕ} → AreLevels levels → (level word here : ℕ) → (bit_and word (2 ^ 63) == 2 ^ 63) ≡ false →
    IsOutput (layout levels) level word here (number_in word + here % 2 ^ (9 * level))
single_output {levels} are level word here top log2 prot l =
    elim (leaf_word are level log2 l.out l.part word prot l.may l.word_is).0 [
      | a_single s x ↦
          leaf_found are level log2 l.out l.part word here prot l.may l.word_is
          ∙ ap (λ k. page (l.out + here % 2 ^ k) prot) s
          ∙ ap (λ o. page (o + here % 2 ^ (9 * level)) prot) (sym (single_number x))
      | a_sixteen z s x ↦ absurd (let all : bit_and word (2 ^ 63) ≡ 2 ^ 63 = sixteen_top x in let set : ⊥ = cc in set)
    ]

pub single_within : {levels : ℕ} → AreLevels levels → (level word here log2 : ℕ) (prot : Prot) → (bit_and word (2 ^ 63) == 2 ^ 63) ≡ false →
    IsLeaf (layout levels) level word log2 prot → number_in word + here % 2 ^ (9 * level) < 2 ^ 44
single_within {levels} are level word here log2 prot top l =
    let w = leaf_word are level log2 l.out l.part word prot l.may l.word_is in
    elim w.0 [
      | a_single s x ↦
          (let n = single_number x in
          let low : level < 5 = let high = (few are).1 in let below = w.1 in omega arith in
          let most = room level l.out low x.within x.aligned in
          let offset = mod_below here (2 ^ (9 * level)) (pow_pos (9 * level)) in
          omega arith)
      | a_sixteen z s x ↦ absurd (let all : bit_and word (2 ^ 63) ≡ 2 ^ 63 = sixteen_top x in let set : ⊥ = cc in set)
    ]

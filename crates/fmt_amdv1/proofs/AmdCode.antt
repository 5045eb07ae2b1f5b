-- Words of AMD tables, as code makes and reads them.
use Rattle.std.proofs.Common.{◌≡◌, ℕ, ◌+◌, ◌-◌, ◌*◌, ◌/◌, ◌%◌, ◌^◌, ◌<◌, ◌≤◌, ◌↔◌, inl, inr, refl, ap, ap₂, sym, ◌∙◌, subst, arith, true, false}
use Rattle.std.specs.Prelude.{IsTrue, IsBitSet, bit_and, bit_or, ◌==◌}
use Rattle.std.specs.Int.{bit_at}
use Rattle.std.specs.Int.Bits.{or_shifted_r, or_zero_l, and_zero_r}
use Rattle.std.proofs.lemmas.Bool.{cases_lt}
use Rattle.std.proofs.lemmas.Nat.{and_block, mod_below, mod_low, mul-le, or_block, pow-add, pow_pos, shr_split}
use Rattle.std.proofs.Math.Nat.{div-mul-le_self}
use native.Mathlib.Nat.{div-eq_of_lt}
use Rattle.std.proofs.lemmas.Nat.Bits.{bit_at-zero, bit_at_cat_high, bit_at_cat_low, bit_at_ones, bit_at_ones_above}
use Rattle.pt_model.specs.declared.block.Prot.{Prot}
use Rattle.pt_model.specs.declared.block.Prot.TheVariants.{Read, ReadWrite}
use Rattle.pt_model.specs.Layout.{is_common, page}
use Rattle.pt_format.specs.Words.{GoBy, HasSizes, IsLeaf, IsPointer, IsWritten, MayBeLeaves, a_leaf, a_pointer}
use Rattle.pt_format.specs.Manual.{IsOutput}
use Rattle.pt_num.proofs.Bits.{set_bit}
use Rattle.pt_format.proofs.BitFacts.{place_bit}
use Rattle.pt_format.proofs.Permissions.{of_common}
use Rattle.pt_manual.specs.AmdWalk.{next_level}
use Rattle.fmt_amdv1.specs.AmdWords.{IsLeafOf, bits_of, layout, leaf, log2_in, next_of, number_in, number_of, word_of}
use Rattle.fmt_amdv1.specs.Sizes.{of_size, size_of}
use Rattle.fmt_amdv1.specs.AmdFacts.{begins, by_code, by_default, form_of, leaf_log2, leaf_parts, next_below, number_below}
use Rattle.fmt_amdv1.specs.AmdLaws.{leaf_found, leaf_next, leaf_of, pointer_next, pointer_of}

-- bits at both ends of a word, around its fields
or_ends : (fields high : ℕ) → fields < 2 ^ 52 → bit_or (fields * 2 ^ 9) (high * 2 ^ 61 + 1) ≡ fields * 2 ^ 9 + (high * 2 ^ 61 + 1)
or_ends fields high few =
    let block = or_block 9 fields (high * 2 ^ 52) 0 1 (omega arith) (omega arith) in
    let left : fields * 2 ^ 9 + 0 ≡ fields * 2 ^ 9 = omega arith in
    let right : high * 2 ^ 52 * 2 ^ 9 + 1 ≡ high * 2 ^ 61 + 1 = omega arith in
    let or : bit_or (fields * 2 ^ 9) (high * 2 ^ 61 + 1) ≡ bit_or fields (high * 2 ^ 52) * 2 ^ 9 + bit_or 0 1 = rw (left, right) at block in
    omega (arith, or, or_shifted_r high 52 fields few, or_zero_l 1)

pub word_built : (number next : ℕ) (prot : Prot) (word : ℕ) → number < 2 ^ 40 → next < 8 → IsTrue (is_common prot) →
    word ≡ bit_or (number * 2 ^ 12 + next * 2 ^ 9) (bits_of prot) → word ≡ word_of number next prot
word_built number next prot word few low stated is =
    let fields : number * 2 ^ 12 + next * 2 ^ 9 ≡ (number * 8 + next) * 2 ^ 9 = omega arith in
    is ∙ ap (λ n. bit_or n (bits_of prot)) fields
    ∙ of_common (λ p. bit_or ((number * 8 + next) * 2 ^ 9) (bits_of p) ≡ word_of number next p)
    (or_ends (number * 8 + next) 1 (omega arith) ∙ omega arith)
    (or_ends (number * 8 + next) 3 (omega arith) ∙ omega arith) prot stated

-- the permission by bit 62
write_is : (number next : ℕ) → number < 2 ^ 40 → next < 8 →
    (bit_and (word_of number next Read) (2 ^ 62) ≡ 0) × (bit_and (word_of number next ReadWrite) (2 ^ 62) ≡ 2 ^ 62)
write_is number next few low =
    let below : ℕ = number * 2 ^ 12 + (next * 2 ^ 9 + (1 + 2 ^ 61)) in
    let read : word_of number next Read ≡ 0 * 2 ^ 62 + below = omega arith in
    let both : word_of number next ReadWrite ≡ 1 * 2 ^ 62 + below = omega arith in
    (ap (λ n. bit_and n (2 ^ 62)) read ∙ place_bit 62 0 below (omega arith), ap (λ n. bit_and n (2 ^ 62)) both ∙ place_bit 62 1 below (omega arith))

leaf_write : {level log2 out word : ℕ} {prot : Prot} → IsLeafOf level log2 out word prot →
    (bit_and (word_of (number_of level log2 out) (next_of level log2) Read) (2 ^ 62) ≡ 0)
    × (bit_and (word_of (number_of level log2 out) (next_of level log2) ReadWrite) (2 ^ 62) ≡ 2 ^ 62)
leaf_write {level} {log2} {out} x =
    let number = number_below level log2 out x.a_size in
    let within = x.within in
    write_is (number_of level log2 out) (next_of level log2) (omega arith) (next_below level log2)

pub both_by_write : {level log2 out word : ℕ} {prot : Prot} → (bit_and word (2 ^ 62) == 2 ^ 62) ≡ true → IsLeafOf level log2 out word prot → ReadWrite ≡ prot
both_by_write {level} {log2} {out} {word} {prot} set x =
    of_common (λ p. word ≡ leaf level log2 out p → ReadWrite ≡ p)
    (λ e. absurd (let none : bit_and word (2 ^ 62) ≡ 0 = ap (λ n. bit_and n (2 ^ 62)) e ∙ (leaf_write x).0 in let w : ⊥ = cc in w))
    (λ e. refl) prot x.stated x.word_is

pub read_by_write : {level log2 out word : ℕ} {prot : Prot} → (bit_and word (2 ^ 62) == 2 ^ 62) ≡ false → IsLeafOf level log2 out word prot → Read ≡ prot
read_by_write {level} {log2} {out} {word} {prot} clear x =
    of_common (λ p. word ≡ leaf level log2 out p → Read ≡ p)
    (λ e. refl)
    (λ e. absurd (let all : bit_and word (2 ^ 62) ≡ 2 ^ 62 = ap (λ n. bit_and n (2 ^ 62)) e ∙ (leaf_write x).1 in let w : ⊥ = cc in w))
    prot x.stated x.word_is

-- the first output page of a leaf
pub leaf_first : {level log2 out word : ℕ} {prot : Prot} → IsLeafOf level log2 out word prot → number_in word - number_in word % 2 ^ log2 ≡ out
leaf_first {level} {log2} {out} {word} {prot} x =
    let number = number_below level log2 out x.a_size in
    let is : number_in word ≡ number_of level log2 out = (leaf_parts x).number_is in
    let from = begins log2 out (number_in word) x.aligned (omega (arith, is)) (omega (arith, is)) in
    omega (arith, from, shr_split (number_in word) log2)

-- a block that begins in the output lies in it
pub block_room : (log2 number : ℕ) → log2 ≤ 40 → number < 2 ^ 40 → number - number % 2 ^ log2 + 2 ^ log2 ≤ 2 ^ 40
block_room log2 number few within =
    let split : 40 - log2 + log2 ≡ 40 = omega arith in
    let wide : 2 ^ 40 ≡ 2 ^ (40 - log2) * 2 ^ log2 = ap (λ (k : ℕ). 2 ^ k) (sym split) ∙ pow-add 2 (40 - log2) log2 in
    let high : number / 2 ^ log2 < 2 ^ (40 - log2) = div_below number (2 ^ (40 - log2)) (2 ^ log2) (subst (λ n. number < n) wide within) in
    let most = mul-le (number / 2 ^ log2 + 1) (2 ^ log2) (2 ^ (40 - log2)) (2 ^ log2) (omega arith) (omega arith) in
    omega (arith, wide, most, shr_split number log2)
  where
    div_below : (n a b : ℕ) → n < a * b → n / b < a
    div_below n a b less = elim (cases_lt (n / b) a) [
      | inl low ↦ low
      | inr high ↦ absurd
          (let most = mul-le a b (n / b) b high (omega arith) in
          omega (arith, div-mul-le_self n b, most))
    ]

pub block_whole : (log2 number : ℕ) → (number - number % 2 ^ log2) % 2 ^ log2 ≡ 0
block_whole log2 number =
    let is : number - number % 2 ^ log2 ≡ number / 2 ^ log2 * 2 ^ log2 + 0 = omega (arith, shr_split number log2) in
    ap (λ n. n % 2 ^ log2) is ∙ mod_low (number / 2 ^ log2) log2 0 (pow_pos log2)

-- such a word is a lawful leaf, and the other way round
pub leaf_from : {level log2 out word : ℕ} {prot : Prot} → IsLeafOf level log2 out word prot → IsLeaf layout level word log2 prot
leaf_from {level} {log2} {out} {word} {prot} x =
    let s = of_size level log2 x.a_size in
    let low = x.a_size.low_level in
    record {
      out = out;
      part = 0;
      may = record {
        below = omega arith;
        a_size = s.0;
        at_level = s.1;
        aligned = x.aligned;
        within = x.within;
        stated = x.stated;
        a_part = pow_pos (log2 - 9 * level);
      };
      word_is = x.word_is;
    }

-- a written word is a pointer where its next level is neither 0 nor 7
pub pointer_by_next : (level word : ℕ) → 1 < (next_level word + 1) % 8 → IsWritten layout level word → (address : ℕ) × IsPointer layout level word address
pointer_by_next level word above (a_leaf log2 prot l) = absurd (let low = leaf_next (leaf_of l.may word l.word_is) in omega arith)
pointer_by_next level word above (a_pointer address p) = (address, p)

pub leaf_by_next : (level word : ℕ) → (next_level word + 1) % 8 ≤ 1 → IsWritten layout level word → (log2 : ℕ) × (prot : Prot) × IsLeaf layout level word log2 prot
leaf_by_next level word low (a_leaf log2 prot l) = (log2, prot, l)
leaf_by_next level word low (a_pointer address p) = absurd (let above = pointer_next (pointer_of p.at_level p.a_frame word p.word_is) in omega arith)

-- the mask of nine sizes that follow each other
nine_bits : (m k : ℕ) → IsBitSet (511 * 2 ^ m) k ↔ ((m ≤ k) × (k < m + 9))
nine_bits m k = (
  λ set. let one : bit_at (511 * 2 ^ m) k ≡ 1 = (set_bit (511 * 2 ^ m) k).0 set in elim (cases_lt k m) [
    | inl low ↦ absurd (let none = below low in omega arith)
    | inr high ↦ elim (cases_lt k (m + 9)) [
      | inl under ↦ (high, under)
      | inr past ↦ absurd (let same = above high in let none = bit_at_ones_above 9 (k - m) (omega arith) in omega arith)
    ]
  ],
  λ both. (set_bit (511 * 2 ^ m) k).1 (let from = both.0 in let to = both.1 in above from ∙ bit_at_ones 9 (k - m) (omega arith)),
)
  where
    whole : 511 * 2 ^ m + 0 ≡ 511 * 2 ^ m
    whole = omega arith

    below : k < m → bit_at (511 * 2 ^ m) k ≡ 0
    below low = ap (λ n. bit_at n k) (sym whole) ∙ bit_at_cat_low 511 m 0 k low ∙ bit_at-zero k

    above : m ≤ k → bit_at (511 * 2 ^ m) k ≡ bit_at 511 (k - m)
    above high = ap (λ n. bit_at n k) (sym whole) ∙ bit_at_cat_high 511 m 0 k (pow_pos m) high

pub low_mask : (level : ℕ) → level < 3 → HasSizes layout level (511 * 2 ^ (9 * level))
low_mask level low k = (
  λ set. let b = (nine_bits (9 * level) k).0 set in of_size level k (record { low_level = low; from = b.0; to = b.1 }),
  λ size. let s = size_of level k size.0 size.1 in (nine_bits (9 * level) k).1 (s.from, s.to),
)

pub high_mask : (level : ℕ) → 3 ≤ level → HasSizes layout level 0
high_mask level high k = (λ set. absurd (set refl), λ size. absurd (let low = (size_of level k size.0 size.1).low_level in omega arith))

-- the output page of a page by a leaf, and its bound
pub output_is : (level word here log2 : ℕ) → log2 ≡ log2_in level word → IsOutput layout level word here (number_in word - number_in word % 2 ^ log2 + here % 2 ^ log2)
output_is level word here log2 is size prot l =
    let x = leaf_of l.may word l.word_is in
    let same : size ≡ log2 = sym (leaf_log2 x) ∙ sym is in
    leaf_found here x ∙ ap (λ k. page (l.out + here % 2 ^ k) prot) same
    ∙ ap (λ o. page (o + here % 2 ^ log2) prot) (sym (subst (λ k. number_in word - number_in word % 2 ^ k ≡ l.out) same (leaf_first x)))

pub leaf_few : (level word log2 : ℕ) (prot : Prot) → IsLeaf layout level word log2 prot → log2_in level word < 27
leaf_few level word log2 prot l =
    let x = leaf_of l.may word l.word_is in
    let is = leaf_log2 x in
    let low = x.a_size.low_level in let to = x.a_size.to in
    omega (arith, is)

pub within : (log2 number here : ℕ) → log2 ≤ 40 → number < 2 ^ 40 → number - number % 2 ^ log2 + here % 2 ^ log2 < 2 ^ 40
within log2 number here few low = omega (arith, block_room log2 number few low, mod_below here (2 ^ log2) (pow_pos log2))

-- a leaf is a word of 64 bits
bits_few : (prot : Prot) → IsTrue (is_common prot) → bits_of prot < 2 ^ 63
bits_few = of_common (λ p. bits_of p < 2 ^ 63) (omega arith) (omega arith)

leaf_small : {level log2 out word : ℕ} {prot : Prot} → IsLeafOf level log2 out word prot → word < 2 ^ 64
leaf_small {level} {log2} {out} {word} {prot} x =
    let number = number_below level log2 out x.a_size in
    let few = x.within in
    omega (arith, x.word_is, number, next_below level log2, bits_few prot x.stated)

-- a leaf of what an entry maps, by its fields
default_word : (level log2 out : ℕ) (prot : Prot) → log2 ≡ 9 * level → leaf level log2 out prot ≡ word_of out 0 prot
default_word level log2 out prot is = elim (form_of level log2 out) [
  | by_default same number next ↦ ap₂ (λ n k. word_of n k prot) number next
  | by_code other number next ↦ absurd (other is)
]

-- Equal blocks that follow each other.
module _ (level log2 out : ℕ) (prot : Prot) (count : ℕ) (some : 1 ≤ count) (leaves : MayBeLeaves layout level log2 out prot count) where
  first : 0 < count * 2 ^ (log2 - 9 * level)
  first = let w = pow_pos (log2 - 9 * level) in let h = mul-le 1 1 count (2 ^ (log2 - 9 * level)) some (omega arith) in omega arith

  one_leaf : (e : ℕ) → e < count * 2 ^ (log2 - 9 * level) →
      IsLeafOf level log2 (out + e / 2 ^ (log2 - 9 * level) * 2 ^ log2) (leaf level log2 (out + e / 2 ^ (log2 - 9 * level) * 2 ^ log2) prot) prot
  one_leaf e less = leaf_of (leaves e less) (leaf level log2 (out + e / 2 ^ (log2 - 9 * level) * 2 ^ log2) prot) refl

  pub size_few : log2 < 27
  size_few = let s = (one_leaf 0 first).a_size in let low = s.low_level in let to = s.to in omega arith

  -- of a coded size: one block, whose words are equal
  in_first : (e : ℕ) → e < 2 ^ (log2 - 9 * level) → out + e / 2 ^ (log2 - 9 * level) * 2 ^ log2 ≡ out
  in_first e less =
      let none : e / 2 ^ (log2 - 9 * level) ≡ 0 = div-eq_of_lt less in
      ap (λ q. out + q * 2 ^ log2) none ∙ (let same : out + 0 * 2 ^ log2 ≡ out = omega arith in same)

  pub coded_run : GoBy layout level log2 out prot 1 0
  coded_run = record {
    goes = λ e less.
        ap (λ o. leaf level log2 o prot) (in_first e (omega (arith, less)))
        ∙ (let more : leaf level log2 out prot ≡ leaf level log2 out prot + e * 0 = omega arith in more);
    within = λ e less.
        let small = leaf_small (subst (λ o. IsLeafOf level log2 o (leaf level log2 o prot) prot) (in_first 0 (pow_pos (log2 - 9 * level))) (one_leaf 0 first)) in
        omega arith;
  }

  -- of what an entry maps: their words go by the step of their size
  pub default_run : log2 ≡ 9 * level → (by : ℕ) → by ≡ 2 ^ (12 + log2) → GoBy layout level log2 out prot count by
  default_run entry by is = record {
    goes = goes;
    within = λ e less. let small = leaf_small (one_leaf e less) in omega (arith, goes e less);
  }
    where
      one : 2 ^ (log2 - 9 * level) ≡ 1
      one = let k : log2 - 9 * level ≡ 0 = omega (arith, entry) in ap (λ (j : ℕ). 2 ^ j) k

      place : (e : ℕ) → e / 2 ^ (log2 - 9 * level) ≡ e
      place e = ap (λ (k : ℕ). e / k) one ∙ (let z : e / 1 ≡ e = omega arith in z)

      sum : (e : ℕ) → e * 2 ^ log2 * 2 ^ 12 ≡ e * by
      sum e = (let g : e * 2 ^ log2 * 2 ^ 12 ≡ e * (2 ^ 12 * 2 ^ log2) = omega arith in g)
          ∙ ap (λ (k : ℕ). e * k) (sym (pow-add 2 12 log2)) ∙ ap (λ (k : ℕ). e * k) (sym is)

      goes : (e : ℕ) → e < count * 2 ^ (log2 - 9 * level) →
          leaf level log2 (out + e / 2 ^ (log2 - 9 * level) * 2 ^ log2) prot ≡ leaf level log2 out prot + e * by
      goes e less =
          ap (λ (q : ℕ). leaf level log2 (out + q * 2 ^ log2) prot) (place e)
          ∙ default_word level log2 (out + e * 2 ^ log2) prot entry
          ∙ (let s = sum e in let g : word_of (out + e * 2 ^ log2) 0 prot ≡ word_of out 0 prot + e * by = omega arith in g)
          ∙ ap (λ w. w + e * by) (sym (default_word level log2 out prot entry))

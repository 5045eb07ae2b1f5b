-- The words of AMD tables, to the manual and to code.
use Rattle.std.proofs.Common.{◌≡◌, ◌≢◌, ℕ, zero, suc, ◌+◌, ◌-◌, ◌*◌, ◌/◌, ◌%◌, ◌^◌, ◌<◌, ◌≤◌, inl, inr, refl, ap, ap₂, subst, sym, ◌∙◌, arith, true, false}
use Rattle.std.specs.Prelude.{IsTrue, nat_le, nat_lt, ◌==◌}
use Rattle.std.specs.Int.{trailing_ones, w64}
use Rattle.std.proofs.lemmas.Bool.{cases_eq, eq-eqb, le-leb, lt-ltb, ne_eqb}
use Rattle.std.proofs.lemmas.Nat.{pow-add, pow_pos, shr_high, shr_split}
use native.Mathlib.Nat.{div-div-eq-div-mul}
use Rattle.pt_model.specs.declared.block.Prot.{Prot}
use Rattle.pt_model.specs.declared.block.Prot.TheVariants.{ReadWrite}
use Rattle.pt_model.specs.Layout.{is_common, may_read, may_write}
use Rattle.pt_format.proofs.BitFacts.{coded_ones}
use Rattle.pt_format.proofs.Permissions.{of_common}
use Rattle.pt_manual.specs.EntryBits.{is_aligned}
use Rattle.pt_manual.specs.AmdWalk.{entry_at, lowest_clear, next_level, others_in, step_at}
use Rattle.pt_manual.specs.declared.step.Step.TheVariants.{Page, Next}
use Rattle.fmt_nine_bit.proofs.BlockFacts.{aligned_bytes}
use Rattle.fmt_amdv1.specs.AmdWords.{IsLeafOf, IsPointerOf, IsSizeOf, bits_of, log2_in, next_of, number_in, number_of, word_of}

-- what stands in the fields of a word
pub record HasParts (word number next : ℕ) (prot : Prot) : Type 0 where
  pub number_is : number_in word ≡ number
  pub next_is : next_level word ≡ next
  pub others_are : others_in word ≡ bits_of prot

pub parts_of : (number next : ℕ) (prot : Prot) → number < 2 ^ 40 → next < 8 → IsTrue (is_common prot) → HasParts (word_of number next prot) number next prot
parts_of number next prot few low =
    of_common (λ p. HasParts (word_of number next p) number next p)
    (record { number_is = omega arith; next_is = omega arith; others_are = omega arith })
    (record { number_is = omega arith; next_is = omega arith; others_are = omega arith })
    prot

-- the two forms of a leaf
pub data HasForm (level log2 out : ℕ) : Type 0 where
  by_default : log2 ≡ 9 * level → number_of level log2 out ≡ out → next_of level log2 ≡ 0 → HasForm level log2 out
  by_code : log2 ≢ 9 * level → number_of level log2 out ≡ out + (2 ^ (log2 - 1) - 1) → next_of level log2 ≡ 7 → HasForm level log2 out

pub form_of : (level log2 out : ℕ) → HasForm level log2 out
form_of level log2 out = elim (cases_eq log2 (9 * level)) [
  | inl same ↦ (let yes : (log2 == 9 * level) ≡ true = eq-eqb _ _ same in by_default same (rw yes refl) (rw yes refl))
  | inr other ↦ (let no : (log2 == 9 * level) ≡ false = ne_eqb _ _ other in by_code other (rw no refl) (rw no refl))
]

-- half of a block that isn't one page
pub halves : (log2 : ℕ) → 0 < log2 → 2 ^ log2 ≡ 2 ^ (log2 - 1) * 2
halves zero some = absurd (omega arith)
halves (suc k) some = let less : suc k - 1 ≡ k = omega arith in rw less (omega arith)

-- a number below a block's end
pub number_below : (level log2 out : ℕ) → IsSizeOf level log2 → (out ≤ number_of level log2 out) × (number_of level log2 out < out + 2 ^ log2)
number_below level log2 out size = elim (form_of level log2 out) [
  | by_default same number next ↦ (omega (arith, number), omega (arith, number, pow_pos log2))
  | by_code other number next ↦
      (let from = size.from in
      let half = halves log2 (omega arith) in
      let some = pow_pos (log2 - 1) in
      (omega (arith, number), omega (arith, number)))
]

pub next_below : (level log2 : ℕ) → next_of level log2 < 8
next_below level log2 = elim (form_of level log2 0) [
  | by_default same number next ↦ omega (arith, next)
  | by_code other number next ↦ omega (arith, next)
]

pub leaf_parts : {level log2 out word : ℕ} {prot : Prot} → IsLeafOf level log2 out word prot →
    HasParts word (number_of level log2 out) (next_of level log2) prot
leaf_parts {level} {log2} {out} {word} {prot} x =
    let number = number_below level log2 out x.a_size in
    let within = x.within in
    subst (λ w. HasParts w (number_of level log2 out) (next_of level log2) prot) (sym x.word_is)
    (parts_of (number_of level log2 out) (next_of level log2) prot (omega arith) (next_below level log2) x.stated)

pub pointer_parts : {level word address : ℕ} → IsPointerOf level word address → HasParts word (address / 2 ^ 12) level ReadWrite
pointer_parts {level} {word} {address} p =
    let few = p.a_frame.in_limit in
    let at = p.a_frame.address_is in
    let below = p.below in
    subst (λ w. HasParts w (address / 2 ^ 12) level ReadWrite) (sym p.word_is)
    (parts_of (address / 2 ^ 12) level ReadWrite (omega arith) (omega arith) refl)

-- the size of a coded number
pub coded_size : (log2 out : ℕ) → 0 < log2 → log2 ≤ 40 → out % 2 ^ log2 ≡ 0 → out + 2 ^ log2 ≤ 2 ^ 40 →
    trailing_ones w64 (out + (2 ^ (log2 - 1) - 1)) + 1 ≡ log2
coded_size log2 out some few aligned within =
    let j : ℕ = log2 - 1 in
    let up : j + 1 ≡ log2 = omega arith in
    let q : ℕ = out / 2 ^ log2 in
    let whole : out ≡ q * 2 ^ log2 = omega (arith, shr_split out log2) in
    let wide : out ≡ q * 2 ^ (j + 1) = subst (λ (k : ℕ). out ≡ q * 2 ^ k) (sym up) whole in
    let is : out + (2 ^ (log2 - 1) - 1) ≡ q * 2 ^ (j + 1) + (2 ^ j - 1) = ap (λ n. n + (2 ^ j - 1)) wide in
    let half = halves log2 some in
    let ones = coded_ones q j (omega (arith, wide)) in
    omega (arith, ap (trailing_ones w64) is ∙ ones)

-- the size that is read back from a leaf
pub leaf_log2 : {level log2 out word : ℕ} {prot : Prot} → IsLeafOf level log2 out word prot → log2_in level word ≡ log2
leaf_log2 {level} {log2} {out} {word} {prot} x =
    let p = leaf_parts x in
    let s = x.a_size in
    elim (form_of level log2 out) [
      | by_default same number next ↦
          (let no : (next_level word == 7) ≡ false = ne_eqb _ _ (λ seven. omega (arith, p.next_is, next, seven)) in
          rw no (sym same))
      | by_code other number next ↦
          (let yes : (next_level word == 7) ≡ true = eq-eqb _ _ (p.next_is ∙ next) in
          let low = s.low_level in let from = s.from in let to = s.to in
          rw yes
          (ap (λ n. trailing_ones w64 n + 1) (p.number_is ∙ number)
          ∙ coded_size log2 out (omega arith) (omega arith) x.aligned x.within))
    ]

-- the manual's step at a word, by its fields
by_parts : (level : ℕ) {word number next : ℕ} {prot : Prot} → HasParts word number next prot →
    step_at (level + 1) word ≡ entry_at (level + 1) (number * 2 ^ 12) next (bits_of prot)
by_parts level {word} {number} {next} {prot} p =
    ap (λ n. entry_at (level + 1) (n * 2 ^ 12) (next_level word) (others_in word)) p.number_is
    ∙ ap₂ (λ n b. entry_at (level + 1) (number * 2 ^ 12) n b) p.next_is p.others_are

default_entry : (level address : ℕ) (prot : Prot) → level < 3 → is_aligned (12 + 9 * level) address ≡ true → IsTrue (is_common prot) →
    entry_at (level + 1) address 0 (bits_of prot) ≡ Page address (12 + 9 * level) (may_read prot) (may_write prot)
default_entry zero address prot low aligned =
    of_common (λ p. entry_at 1 address 0 (bits_of p) ≡ Page address 12 (may_read p) (may_write p)) (rw aligned refl) (rw aligned refl) prot
default_entry (suc zero) address prot low aligned =
    of_common (λ p. entry_at 2 address 0 (bits_of p) ≡ Page address 21 (may_read p) (may_write p)) (rw aligned refl) (rw aligned refl) prot
default_entry (suc (suc zero)) address prot low aligned =
    of_common (λ p. entry_at 3 address 0 (bits_of p) ≡ Page address 30 (may_read p) (may_write p)) (rw aligned refl) (rw aligned refl) prot
default_entry (suc (suc (suc more))) address prot low aligned = absurd (omega arith)

coded_entry : (level address log2 : ℕ) (prot : Prot) → IsSizeOf level log2 → 9 * level < log2 → lowest_clear address + 1 ≡ 12 + log2 → IsTrue (is_common prot) →
    entry_at (level + 1) address 7 (bits_of prot) ≡ Page (address / 2 ^ (12 + log2) * 2 ^ (12 + log2)) (12 + log2) (may_read prot) (may_write prot)
coded_entry level address log2 prot s past coded =
    let low = s.low_level in let to = s.to in
    let few : nat_le (level + 1) 3 ≡ true = le-leb _ _ (omega arith) in
    let above : nat_lt (3 + 9 * (level + 1)) (12 + log2) ≡ true = lt-ltb _ _ (omega arith) in
    let below : nat_lt (12 + log2) (9 + (3 + 9 * (level + 1))) ≡ true = lt-ltb _ _ (omega arith) in
    of_common (λ p. entry_at (level + 1) address 7 (bits_of p) ≡ Page (address / 2 ^ (12 + log2) * 2 ^ (12 + log2)) (12 + log2) (may_read p) (may_write p))
    (rw (few, coded, above, below) refl) (rw (few, coded, above, below) refl) prot

pointer_entry : (level address : ℕ) → 0 < level → level < 6 → entry_at (level + 1) address level (bits_of ReadWrite) ≡ Next address true true
pointer_entry zero address some few = absurd (omega arith)
pointer_entry (suc zero) address some few = refl
pointer_entry (suc (suc zero)) address some few = refl
pointer_entry (suc (suc (suc zero))) address some few = refl
pointer_entry (suc (suc (suc (suc zero)))) address some few = refl
pointer_entry (suc (suc (suc (suc (suc zero))))) address some few = refl
pointer_entry (suc (suc (suc (suc (suc (suc more)))))) address some few = absurd (omega arith)

-- the beginning of a block, from a number in it
pub begins : (log2 out number : ℕ) → out % 2 ^ log2 ≡ 0 → out ≤ number → number < out + 2 ^ log2 → number / 2 ^ log2 * 2 ^ log2 ≡ out
begins log2 out number aligned from to =
    let q : ℕ = out / 2 ^ log2 in
    let whole : out ≡ q * 2 ^ log2 = omega (arith, shr_split out log2) in
    let less : number - out < 2 ^ log2 = omega arith in
    let is : number ≡ q * 2 ^ log2 + (number - out) = omega (arith, whole) in
    let high : number / 2 ^ log2 ≡ q = ap (λ n. n / 2 ^ log2) is ∙ shr_high q log2 (number - out) less in
    ap (λ n. n * 2 ^ log2) high ∙ sym whole

-- the same of bytes
begins_byte : (log2 out number : ℕ) → out % 2 ^ log2 ≡ 0 → out ≤ number → number < out + 2 ^ log2 →
    number * 2 ^ 12 / 2 ^ (12 + log2) * 2 ^ (12 + log2) ≡ out * 2 ^ 12
begins_byte log2 out number aligned from to =
    let wide : 2 ^ (12 + log2) ≡ 2 ^ 12 * 2 ^ log2 = pow-add 2 12 log2 in
    let pages : number * 2 ^ 12 / 2 ^ 12 ≡ number = omega arith in
    let high : number * 2 ^ 12 / 2 ^ (12 + log2) ≡ number / 2 ^ log2 =
    ap (λ n. number * 2 ^ 12 / n) wide ∙ sym (div-div-eq-div-mul (number * 2 ^ 12) (2 ^ 12) (2 ^ log2)) ∙ ap (λ n. n / 2 ^ log2) pages in
    let there = begins log2 out number aligned from to in
    ap₂ (λ a b. a * b) high wide ∙ omega (arith, there)

-- the manual gives a leaf's page, of its size
pub leaf_step : {level log2 out word : ℕ} {prot : Prot} → IsLeafOf level log2 out word prot →
    step_at (level + 1) word ≡ Page (out * 2 ^ 12) (12 + log2) (may_read prot) (may_write prot)
leaf_step {level} {log2} {out} {word} {prot} x =
    let s = x.a_size in
    elim (form_of level log2 out) [
      | by_default same number next ↦
          (let aligned : out % 2 ^ (9 * level) ≡ 0 = subst (λ k. out % 2 ^ k ≡ 0) same x.aligned in
          by_parts level (leaf_parts x) ∙ ap₂ (λ n k. entry_at (level + 1) (n * 2 ^ 12) k (bits_of prot)) number next
          ∙ default_entry level (out * 2 ^ 12) prot s.low_level (aligned_bytes 12 (9 * level) out aligned) x.stated
          ∙ ap (λ k. Page (out * 2 ^ 12) (12 + k) (may_read prot) (may_write prot)) (sym same))
      | by_code other number next ↦
          (let low = s.low_level in let from = s.from in let to = s.to in
          let n : ℕ = number_of level log2 out in
          let size : trailing_ones w64 n + 1 ≡ log2 = ap (λ i. trailing_ones w64 i + 1) number ∙ coded_size log2 out (omega arith) (omega arith) x.aligned x.within in
          let pages : n * 2 ^ 12 / 2 ^ 12 ≡ n = omega arith in
          let clear : trailing_ones w64 (n * 2 ^ 12 / 2 ^ 12) ≡ trailing_ones w64 n = ap (trailing_ones w64) pages in
          let in_block = number_below level log2 out s in
          by_parts level (leaf_parts x) ∙ ap (λ k. entry_at (level + 1) (n * 2 ^ 12) k (bits_of prot)) next
          ∙ coded_entry level (n * 2 ^ 12) log2 prot s (omega arith) (omega (arith, clear, size)) x.stated
          ∙ ap (λ a. Page a (12 + log2) (may_read prot) (may_write prot)) (begins_byte log2 out n x.aligned in_block.0 in_block.1))
    ]

pub pointer_step : {level word address : ℕ} → IsPointerOf level word address → step_at (level + 1) word ≡ Next address true true
pointer_step {level} {word} {address} p =
    let at = p.a_frame.address_is in
    let pages : address / 2 ^ 12 * 2 ^ 12 ≡ address = omega arith in
    by_parts level (pointer_parts p) ∙ pointer_entry level (address / 2 ^ 12 * 2 ^ 12) p.above p.below ∙ ap (λ a. Next a true true) pages

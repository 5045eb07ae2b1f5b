-- Numbers as the code makes them: masks, and powers and quotients cut at 63 bits.
use Rattle.std.proofs.Common.{◌≡◌, ℕ, ◌+◌, ◌-◌, ◌*◌, ◌/◌, ◌%◌, ◌^◌, ◌<◌, ◌≤◌, min, inl, inr, ap, sym, ◌∙◌, arith}
use Rattle.std.proofs.lemmas.Nat.{shr_split, one_shl, and_mask, pow_pos, mod_below}
use Rattle.std.proofs.lemmas.Bool.{cases_lt}
use Rattle.std.specs.Prelude.{bit_and}
use Rattle.std.proofs.Math.Pow.{pow_mono}
use Rattle.std.proofs.Math.Nat.{div-eq_of_lt}
use Rattle.pt_model.specs.Layout.{Layout, input_pages, pages_of_entry}
use Rattle.pt_model.proofs.Quotients.{past_here}
use Rattle.pt_format.specs.Laws.{IsLayout}

-- a page has 52 bits at most
pub pages_few : (f : Layout) → IsLayout f → input_pages f ≤ 2 ^ 52
pages_few f l = let bits : f.input - f.granule ≤ 52 = omega (arith, l.pages_high) in pow_mono bits

-- a page is below each power past its bits
past_all : (page k : ℕ) → page < 2 ^ 52 → 52 ≤ k → page / 2 ^ k ≡ 0
past_all page k few past = let wide : 2 ^ 52 ≤ 2 ^ k = pow_mono past in div-eq_of_lt (omega (arith, wide))

pub quotient_cut : (page k : ℕ) → page < 2 ^ 52 → page / 2 ^ min k 63 ≡ page / 2 ^ k
quotient_cut page k few = elim (cases_lt k 63) [
  | inl low ↦ (let e : min k 63 ≡ k = omega arith in ap (λ j. page / 2 ^ j) e)
  | inr high ↦
      (let e : min k 63 ≡ 63 = omega arith in
      ap (λ j. page / 2 ^ j) e ∙ past_all page 63 few (omega arith) ∙ sym (past_all page k few (omega arith)))
]

-- a mask of low bits, as the code makes it
pub masked : (x bits width : ℕ) → bits ≡ width → bits < 64 → bit_and x (1 * 2 ^ bits % 2 ^ 64 - 1) ≡ x % 2 ^ width
masked x bits width e small = rw (one_shl bits 64 small) (and_mask x bits ∙ ap (λ k. x % 2 ^ k) e)

-- a quotient is zero exactly below the divisor
pub zero_below : (n k : ℕ) → n / 2 ^ k ≡ 0 → n < 2 ^ k
zero_below n k e = let s = shr_split n k in let m = mod_below n (2 ^ k) (pow_pos k) in
    let z : n / 2 ^ k * 2 ^ k ≡ 0 = ap (λ x. x * 2 ^ k) e ∙ omega arith in omega arith

-- the code cuts an entry's bits at 63, and its end at 2^63
pub end_cut : (page k : ℕ) → page < 2 ^ 52 → (page / 2 ^ min k 63 + 1) * 2 ^ min k 63 ≡ min ((page / 2 ^ k + 1) * 2 ^ k) (2 ^ 63)
end_cut page k few = elim (cases_lt k 63) [
  | inl low ↦ (
      let e : min k 63 ≡ k = omega arith in
      let small : 2 ^ k ≤ 2 ^ 62 = pow_mono (let h : k ≤ 62 = omega arith in h) in
      let s = shr_split page k in
      let within : (page / 2 ^ k + 1) * 2 ^ k ≤ 2 ^ 63 = omega arith in
      ap (λ j. (page / 2 ^ j + 1) * 2 ^ j) e ∙ (let m : (page / 2 ^ k + 1) * 2 ^ k ≡ min ((page / 2 ^ k + 1) * 2 ^ k) (2 ^ 63) = omega arith in m))
  | inr high ↦ (
      let e : min k 63 ≡ 63 = omega arith in
      let big : 2 ^ 63 ≤ 2 ^ k = pow_mono high in
      let s = shr_split page 63 in
      let t = shr_split page k in
      let z : page / 2 ^ 63 ≡ 0 = omega arith in
      ap (λ j. (page / 2 ^ j + 1) * 2 ^ j) e ∙ ap (λ q. (q + 1) * 2 ^ 63) z ∙ (let m : (0 + 1) * 2 ^ 63 ≡ min ((page / 2 ^ k + 1) * 2 ^ k) (2 ^ 63) = omega arith in m))
]

pub power_cut : (k : ℕ) → 2 ^ min k 63 ≡ min (2 ^ k) (2 ^ 63)
power_cut k = elim (cases_lt k 63) [
  | inl low ↦ (
      let e : min k 63 ≡ k = omega arith in
      let small : 2 ^ k ≤ 2 ^ 63 = pow_mono (let h : k ≤ 63 = omega arith in h) in
      ap (λ j. 2 ^ j) e ∙ (let m : 2 ^ k ≡ min (2 ^ k) (2 ^ 63) = omega arith in m))
  | inr high ↦ (
      let e : min k 63 ≡ 63 = omega arith in
      let big : 2 ^ 63 ≤ 2 ^ k = pow_mono high in
      ap (λ j. 2 ^ j) e ∙ (let m : 2 ^ 63 ≡ min (2 ^ k) (2 ^ 63) = omega arith in m))
]

-- the pages from one to before the end of its entry, or of the range
pub next_stop : (f : Layout) → IsLayout f → (at end level stop next : ℕ) → stop ≡ min ((at / pages_of_entry f level + 1) * pages_of_entry f level) (2 ^ 63) → next ≡ min stop end →
    at < end → end ≤ input_pages f → (at < next) × (next ≤ end) × (next ≤ (at / pages_of_entry f level + 1) * pages_of_entry f level)
next_stop f good at end level stop next stops is some in_space =
    let few = pages_few f good in
    let past = past_here at (f.index * level) in
    (omega arith, omega arith, omega arith)

-- Numbers of entries, and their first pages.
use Rattle.std.proofs.Common.{◌≡◌, ℕ, ◌+◌, ◌-◌, ◌*◌, ◌/◌, ◌%◌, ◌^◌, ◌<◌, ◌≤◌, sym, ap, ◌∙◌, subst, arith, pow_mono}
use Rattle.std.specs.Prelude.{min}
use Rattle.std.proofs.lemmas.Nat.{mul-le, pow_pos}
use Rattle.std.proofs.Math.Nat.{div-mul-le_self, min-eq_left, min-eq_right}
use mathlib.Core.Logic.{dite}
use native.Mathlib.Decide.{dec_le}

small_mod : (a : ℕ) → a < 18446744073709551616 → a % 18446744073709551616 ≡ a
small_mod a h = omega arith

module _ (e n base pages b : ℕ) (h : n ≤ (pages - 1 - base) / 2 ^ b) (low : base < pages) (few : pages ≤ 2 ^ 52) (is : b ≡ min e 63) where
  most : n * 2 ^ b ≤ pages - 1 - base
  most = let a = mul-le n (2 ^ b) ((pages - 1 - base) / 2 ^ b) (2 ^ b) h (omega arith) in let c = div-mul-le_self (pages - 1 - base) (2 ^ b) in omega arith

  none : 63 < e → n ≡ 0
  none high =
      let c : b ≡ 63 = is ∙ min-eq_right (let h : 63 ≤ e = omega arith in h) in
      let d : n * 2 ^ 63 ≤ pages - 1 - base = subst (λ (z : ℕ). n * 2 ^ z ≤ pages - 1 - base) c most in omega arith

  pub entry_place_at : base + n * 2 ^ b % 2 ^ 64 ≡ base + n * 2 ^ e
  entry_place_at = ap (λ z. base + z) (small_mod (n * 2 ^ b) (let m = most in omega arith)) ∙ dite (dec_le e 63)
      (λ le. ap (λ z. base + n * 2 ^ z) (is ∙ min-eq_left le))
      (λ gt. let z = none (omega arith) in ap (λ k. base + k * 2 ^ b) z ∙ (let q : base + 0 * 2 ^ b ≡ base + 0 * 2 ^ e = omega arith in q) ∙ sym (ap (λ k. base + k * 2 ^ e) z))

  pub entry_low : base + n * 2 ^ e < pages
  entry_low = dite (dec_le e 63)
      (λ le. let m = subst (λ (z : ℕ). n * 2 ^ z ≤ pages - 1 - base) (is ∙ min-eq_left le) most in omega arith)
      (λ gt. subst (λ (k : ℕ). base + k * 2 ^ e < pages) (sym (none (omega arith))) (omega arith))

-- past the last entry whose pages are of the space
pub entry_high : (e n base pages b : ℕ) → (pages - 1 - base) / 2 ^ b < n → base < pages → pages ≤ 2 ^ 52 → b ≡ min e 63 → pages ≤ base + n * 2 ^ e
entry_high e n base pages b over low few is =
    let d : ℕ = 2 ^ b in
    let q : ℕ = (pages - 1 - base) / d in
    let some : 0 < d = pow_pos b in
    let next : (q + 1) * d ≡ q * d + d = omega arith in
    let past : pages - 1 - base < (q + 1) * d = (let flip : d * q ≡ q * d = omega arith in omega arith) in
    let up = mul-le (q + 1) d n d (omega arith) (omega arith) in
    dite (dec_le e 63)
    (λ le. subst (λ (z : ℕ). pages ≤ base + n * 2 ^ z) (is ∙ min-eq_left le) (omega arith))
    (λ gt.
    let wide : 2 ^ 63 ≤ 2 ^ e = pow_mono (let h : 63 ≤ e = omega arith in h) in
    let one = mul-le 1 (2 ^ e) n (2 ^ e) (omega arith) (omega arith) in omega arith)

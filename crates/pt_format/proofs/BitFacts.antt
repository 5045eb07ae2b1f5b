-- A word as a number above and bits below place k: `a * 2 ^ k + r`.
use Rattle.std.proofs.Common.{◌-◌, ◌≡◌, ℕ, ◌+◌, ◌*◌, ◌/◌, ◌%◌, ◌^◌, ◌<◌, ◌↔◌, ap, sym, ◌∙◌, subst, arith, inl, inr, ◌⊎◌}
use Rattle.std.specs.Prelude.{bit_and, bit_or, IsBitSet, max}
use Rattle.std.specs.Int.Bits.{or_block, and_block, or_zero_r, and_zero_r, and_self}
use Rattle.std.proofs.lemmas.Nat.{mod_below, shr_split, pow_pos, pow_apart, bit_set_by_shift}
use Rattle.std.proofs.lemmas.Nat.Bits.{shr_and_one, bit_at_or, bit_at-lt, bit_at-trailing_ones, bit_at_cat_low, bit_at_ones, bit_at_ones_above}
use Rattle.std.specs.Int.{bit_at, trailing_ones, w64}
use Rattle.std.proofs.lemmas.Bool.{cases_eq, cases_order}
use Rattle.pt_num.proofs.Bits.{set_bit}

-- bits set below place k
pub or_low : (k a r s : ℕ) → r < 2 ^ k → s < 2 ^ k → bit_or (a * 2 ^ k + r) s ≡ a * 2 ^ k + bit_or r s
or_low k a r s hr hs =
    let e : 0 * 2 ^ k + s ≡ s = omega arith in
    let b = or_block k a 0 r s hr hs in
    rw (e, or_zero_r) at b

-- bits tested below place k
pub and_low : (k a r s : ℕ) → r < 2 ^ k → s < 2 ^ k → bit_and (a * 2 ^ k + r) s ≡ bit_and r s
and_low k a r s hr hs =
    let e : 0 * 2 ^ k + s ≡ s = omega arith in
    let b = and_block k a 0 r s hr hs in
    let z : bit_and (a * 2 ^ k + r) s ≡ 0 * 2 ^ k + bit_and r s = rw (e, and_zero_r) at b in
    omega (arith, z)

pub and_end : (k n r s : ℕ) → n % 2 ^ k ≡ r → s < 2 ^ k → bit_and n s ≡ bit_and r s
and_end k n r s is low =
    let below : r < 2 ^ k = omega (arith, mod_below n (2 ^ k) (pow_pos k)) in
    let split : n ≡ n / 2 ^ k * 2 ^ k + r = omega (arith, shr_split n k) in
    ap (λ m. bit_and m s) split ∙ and_low k (n / 2 ^ k) r s below low

-- the bit at place k
pub place_bit : (k high low : ℕ) → low < 2 ^ k → bit_and (high * 2 ^ k + low) (2 ^ k) ≡ bit_and high 1 * 2 ^ k
place_bit k high low few =
    let one : 1 * 2 ^ k + 0 ≡ 2 ^ k = omega arith in
    let both = and_block k high 1 low 0 few (pow_pos k) in
    let is : bit_and (high * 2 ^ k + low) (2 ^ k) ≡ bit_and high 1 * 2 ^ k + 0 = rw (one, and_zero_r) at both in
    omega (arith, is)

-- a mask of one bit has that bit and no other
pub one_bit_set : (m k : ℕ) → IsBitSet (2 ^ m) k ↔ (m ≡ k)
one_bit_set m k = (
  λ set. elim (cases_eq m k) [ inl same ↦ same | inr other ↦ absurd (set (pow_apart m k other)) ],
  λ same. subst (λ (j : ℕ). IsBitSet (2 ^ m) j) same (λ zero_and. absurd (omega (arith, pow_pos m, sym (and_self (2 ^ m)) ∙ zero_and))),
)

-- the bits of two masks together
pub or_bit : (a b k : ℕ) → IsBitSet (bit_or a b) k ↔ (IsBitSet a k ⊎ IsBitSet b k)
or_bit a b k = (
  (λ set.
      let one : max (bit_at a k) (bit_at b k) ≡ 1 = sym (bit_at_or a b k) ∙ (set_bit (bit_or a b) k).0 set in
      elim (cases_eq (bit_at a k) 1) [
        | inl here ↦ inl ((set_bit a k).1 here)
        | inr not_here ↦ inr ((set_bit b k).1 (omega (arith, bit_at-lt a k, bit_at-lt b k)))
      ]),
  (λ either. (set_bit (bit_or a b) k).1 (bit_at_or a b k ∙ elim either [
    | inl x ↦ (let one : bit_at a k ≡ 1 = (set_bit a k).0 x in omega (arith, bit_at-lt b k))
    | inr x ↦ (let one : bit_at b k ≡ 1 = (set_bit b k).0 x in omega (arith, bit_at-lt a k))
  ])),
)

-- a coded size: j ones below a clear bit, under a number that ends above it
pub coded_ones : (q j : ℕ) → q * 2 ^ (j + 1) + (2 ^ j - 1) + 1 < 2 ^ 64 →
    trailing_ones w64 (q * 2 ^ (j + 1) + (2 ^ j - 1)) ≡ j
coded_ones q j fits =
    let n : ℕ = q * 2 ^ (j + 1) + (2 ^ j - 1) in
    let t = bit_at-trailing_ones w64 (q * 2 ^ (j + 1) + (2 ^ j - 1)) fits in
    let clear : bit_at (q * 2 ^ (j + 1) + (2 ^ j - 1)) j ≡ 0 =
    bit_at_cat_low q (j + 1) (2 ^ j - 1) j (omega arith) ∙ bit_at_ones_above j j (omega arith) in
    let set : (i : ℕ) → i < j → bit_at (q * 2 ^ (j + 1) + (2 ^ j - 1)) i ≡ 1 = λ i low.
    bit_at_cat_low q (j + 1) (2 ^ j - 1) i (omega arith) ∙ bit_at_ones j i low in
    elim (cases_order (trailing_ones w64 (q * 2 ^ (j + 1) + (2 ^ j - 1))) j) [
      | inl same ↦ same
      | inr other ↦ elim other [
        | inl below ↦ absurd (omega (arith, t.1, set (trailing_ones w64 (q * 2 ^ (j + 1) + (2 ^ j - 1))) below))
        | inr above ↦ absurd (omega (arith, clear, t.2 j above))
      ]
    ]

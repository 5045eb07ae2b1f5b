-- The places of bits: the top one, the lowest one, and those of a mask.
use Rattle.std.proofs.Common.{◌≡◌, ℕ, zero, suc, ◌+◌, ◌-◌, ◌*◌, ◌/◌, ◌%◌, ◌^◌, ◌<◌, ◌≤◌, ◌≢◌, ◌↔◌, sym, ◌∙◌, subst, refl, arith, inl, inr, ap}
use Rattle.std.specs.Prelude.{bit_and, bit_or, IsBitSet, min}
use Rattle.std.specs.Int.{bit_at}
use Rattle.std.specs.Int.Count.{count_trailing_zeros}
use Rattle.std.proofs.lemmas.Nat.{pow_pos, pow_below, bit_set_by_shift, shr_below, le-div, mod-pow-add, or_mod, le_or_l, le_or_r}
use Rattle.std.proofs.lemmas.Nat.Bits.{shr_and_one, bit_at_and, bit_at-lt, bit_at_ones, bit_at_ones_above, bit_at_above}
use Rattle.std.proofs.lemmas.Bool.{cases_eq, cases_lt}

-- a bit is set where it is 1
pub set_bit : (n k : ℕ) → IsBitSet n k ↔ (bit_at n k ≡ 1)
set_bit n k = (
  (λ set. sym (shr_and_one n k) ∙ (bit_set_by_shift n k).1 set),
  (λ one. (bit_set_by_shift n k).0 (shr_and_one n k ∙ one)),
)

-- the top bit of a number is set
pub top_is_set : (n k : ℕ) → 2 ^ k ≤ n → n < 2 ^ (k + 1) → IsBitSet n k
top_is_set n k low high =
    let turned : n < 2 ^ (1 + k) = subst (λ (j : ℕ). n < 2 ^ j) (omega arith) high in
    let below : n / 2 ^ k < 2 = shr_below n 1 k turned in
    let above : 1 ≤ n / 2 ^ k = le-div 1 n (2 ^ k) (pow_pos k) (omega arith) in
    let one : n / 2 ^ k ≡ 1 = omega arith in
    let bit : bit_at n k ≡ 1 = ap (λ (q : ℕ). q % 2) one in
    (set_bit n k).1 bit

-- no bit is set above it
pub top_is_last : (n top k : ℕ) → n < 2 ^ (top + 1) → IsBitSet n k → k ≤ top
top_is_last n top k high set =
    elim (cases_lt top k) [
      | inl past ↦ absurd (omega (arith, bit_at_above n (top + 1) k high (omega arith), (set_bit n k).0 set))
      | inr within ↦ omega arith
    ]

-- a number with a bit set is not 0
pub some_bit : (n k : ℕ) → IsBitSet n k → n ≢ 0
some_bit n k set none = let zeros : bit_at n k ≡ 0 = rw none (bit_at_above 0 k k (pow_pos k) (omega arith)) in omega (arith, zeros, (set_bit n k).0 set)

-- a mask of the places from 0 to `most` keeps the bits there
pub low_bits : (n most k : ℕ) → IsBitSet (bit_and n (2 ^ (most + 1) - 1)) k ↔ (IsBitSet n k × (k ≤ most))
low_bits n most k = (
  (λ set.
      let both : min (bit_at n k) (bit_at (2 ^ (most + 1) - 1) k) ≡ 1 =
      sym (bit_at_and n (2 ^ (most + 1) - 1) k) ∙ (set_bit (bit_and n (2 ^ (most + 1) - 1)) k).0 set in
      elim (cases_lt most k) [
        | inl past ↦ absurd (omega (arith, both, bit_at_ones_above (most + 1) k (omega arith)))
        | inr within ↦ ((set_bit n k).1 (omega (arith, both, bit_at-lt n k)), omega arith)
      ]),
  (λ kept. (set_bit (bit_and n (2 ^ (most + 1) - 1)) k).1
      (bit_at_and n (2 ^ (most + 1) - 1) k ∙ omega (arith, (set_bit n k).0 kept.0, bit_at_ones (most + 1) k (omega (arith, kept.1))))),
)

-- 2 ^ k divides a number where its trailing zeros are at least k
pub divides_where : (bits k n : ℕ) → k ≤ bits → (k ≤ count_trailing_zeros bits n) ↔ (n % 2 ^ k ≡ 0)
unfolding count_trailing_zeros
divides_where bits zero n within = ((λ h. omega arith), (λ h. omega arith))
divides_where zero (suc k) n within = absurd (omega arith)
divides_where (suc bits) (suc k) n within =
    let split : n % 2 ^ (k + 1) ≡ (n / 2 ^ 1 % 2 ^ k) * 2 ^ 1 + n % 2 ^ 1 = mod-pow-add n k 1 in
    let split_suc : n % 2 ^ suc k ≡ (n / 2 % 2 ^ k) * 2 + n % 2 = subst (λ (j : ℕ). n % 2 ^ j ≡ (n / 2 % 2 ^ k) * 2 + n % 2) (omega arith) split in
    let rest = divides_where bits k (n / 2) (omega arith) in
    elim (cases_eq (n % 2) 0) [
      | inl even ↦ rw even ((λ h. omega (arith, split_suc, rest.0 (omega arith))), (λ h. omega (arith, rest.1 (omega (arith, split_suc)))))
      | inr odd ↦ (let one : n % 2 ≡ suc zero = omega arith in rw one ((λ h. absurd (omega arith)), (λ h. absurd (omega (arith, split_suc)))))
    ]

-- 2 ^ k divides two numbers where it divides their bits together
pub divides_both : (a b k : ℕ) → (bit_or a b % 2 ^ k ≡ 0) ↔ ((a % 2 ^ k ≡ 0) × (b % 2 ^ k ≡ 0))
divides_both a b k = (
  (λ h. (omega (arith, or_mod a b k, le_or_l (a % 2 ^ k) (b % 2 ^ k)), omega (arith, or_mod a b k, le_or_r (a % 2 ^ k) (b % 2 ^ k)))),
  (λ h. rw (or_mod, h.0, h.1) refl),
)

-- a power that is at most a number of 64 bits has an exponent below 64
pub exponent_below : (k n : ℕ) → 2 ^ k ≤ n → n < 2 ^ 64 → k < 64
exponent_below k n h fits =
    elim (cases_lt 63 k) [
      | inl past ↦ elim (cases_lt 64 k) [
        | inl beyond ↦ absurd (omega (arith, pow_below 64 k beyond))
        | inr at ↦ let e : k ≡ 64 = omega arith in absurd (omega (arith, rw e at h))
      ]
      | inr within ↦ omega arith
    ]

-- a power is at most a number where its exponent is at most the place of the top bit
pub power_fits : (k top n : ℕ) → 2 ^ top ≤ n → n < 2 ^ (top + 1) → (2 ^ k ≤ n) ↔ (k ≤ top)
power_fits k top n low high = (
  (λ fits. elim (cases_lt top k) [
    | inl past ↦ elim (cases_eq k (top + 1)) [
      | inl next ↦ absurd (omega (arith, rw next at fits))
      | inr beyond ↦ absurd (omega (arith, pow_below (top + 1) k (omega arith)))
    ]
    | inr within ↦ omega arith
  ]),
  (λ within. elim (cases_eq k top) [
    | inl same ↦ rw same low
    | inr below ↦ omega (arith, pow_below k top (omega arith))
  ]),
)

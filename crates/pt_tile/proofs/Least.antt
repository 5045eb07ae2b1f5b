-- The least bit of a mask from a place on.
use Rattle.std.proofs.Common.{◌≡◌, ℕ, ◌+◌, ◌-◌, ◌*◌, ◌/◌, ◌%◌, ◌^◌, ◌<◌, ◌≤◌, ◌≢◌, sym, subst, ◌∙◌, arith, inl, inr, ap}
use Rattle.std.specs.Prelude.{IsBitSet}
use Rattle.std.specs.Int.{bit_at, trailing_zeros, w64}
use Rattle.std.proofs.lemmas.Nat.{shr-shr, shr_split, mod_below, pow_pos, shr_le}
use Rattle.std.proofs.lemmas.Nat.Bits.{bit_at-trailing_zeros, bit_at_above}
use Rattle.std.proofs.lemmas.Bool.{cases_lt}
use Rattle.pt_num.proofs.Bits.{set_bit, top_is_last}

pub bit_below : (n k : ℕ) → n < 2 ^ 64 → IsBitSet n k → k < 64
bit_below n k fits set = omega (arith, top_is_last n 63 k fits set)

pub none_above : (n least k : ℕ) → n / 2 ^ least ≡ 0 → IsBitSet n k → k < least
none_above n least k none set =
    elim (cases_lt k least) [
      | inl below ↦ below
      | inr above ↦
          let times : n / 2 ^ least * 2 ^ least ≡ 0 = rw none (omega arith) in
          let small : n < 2 ^ least = omega (arith, times, shr_split n least, mod_below n (2 ^ least) (pow_pos least)) in
          absurd (omega (arith, (set_bit n k).0 set, bit_at_above n least k small above))
    ]

shifted : (n a b : ℕ) → bit_at (n / 2 ^ a) b ≡ bit_at n (a + b)
shifted n a b = ap (λ (q : ℕ). q % 2) (shr-shr n a b)

pub least_set : (n least : ℕ) → n < 2 ^ 64 → n / 2 ^ least ≢ 0 → IsBitSet n (least + trailing_zeros w64 (n / 2 ^ least))
least_set n least fits some =
    let z = bit_at-trailing_zeros w64 (n / 2 ^ least) (omega arith) (omega (arith, shr_le n least)) in
    (set_bit n (least + trailing_zeros w64 (n / 2 ^ least))).1 (sym (shifted n least (trailing_zeros w64 (n / 2 ^ least))) ∙ z.1)

pub least_first : (n least k : ℕ) → n < 2 ^ 64 → n / 2 ^ least ≢ 0 → IsBitSet n k → least ≤ k →
    least + trailing_zeros w64 (n / 2 ^ least) ≤ k
least_first n least k fits some set from =
    let z = bit_at-trailing_zeros w64 (n / 2 ^ least) (omega arith) (omega (arith, shr_le n least)) in
    elim (cases_lt k (least + trailing_zeros w64 (n / 2 ^ least))) [
      | inl below ↦
          let clear : bit_at (n / 2 ^ least) (k - least) ≡ 0 = z.2 (k - least) (omega arith) in
          let place : bit_at n (least + (k - least)) ≡ 0 = sym (shifted n least (k - least)) ∙ clear in
          let here : bit_at n k ≡ 0 = subst (λ (i : ℕ). bit_at n i ≡ 0) (omega arith) place in
          absurd (omega (arith, here, (set_bit n k).0 set))
      | inr fine ↦ fine
    ]

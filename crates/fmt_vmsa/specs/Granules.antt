-- What holds at each granule, and in each level with leaves.
use Rattle.std.proofs.Common.{◌≡◌, ℕ, zero, suc, ◌+◌, ◌*◌, ◌/◌, ◌%◌, ◌^◌, ◌<◌, ◌≤◌, ap, sym, subst, ◌∙◌, arith}
use Rattle.std.specs.Prelude.{IsTrue}
use Rattle.std.proofs.lemmas.Bool.{ltb-true}
use Rattle.std.proofs.lemmas.Nat.{mod_below, pow-add, pow_pos, shr_split}
use Rattle.std.proofs.Math.Arith.{mod-mul}
use Rattle.pt_manual.specs.VmsaWalk.{IsGranule, of_4_kib, of_16_kib, of_64_kib}
use Rattle.fmt_nine_bit.proofs.BlockFacts.{multiple}
use Rattle.fmt_vmsa.specs.VmsaWords.{entry_size, group_log2, has_leaves, levels_of}

pub by_granule : (P : ℕ → Type 0) → P 12 → P 14 → P 16 → {granule : ℕ} → IsGranule granule → P granule
by_granule P four sixteen sixty_four {granule} (of_4_kib e) = subst P (sym e) four
by_granule P four sixteen sixty_four {granule} (of_16_kib e) = subst P (sym e) sixteen
by_granule P four sixteen sixty_four {granule} (of_64_kib e) = subst P (sym e) sixty_four

below_two : (P : ℕ → Type 0) → P 0 → P 1 → (level : ℕ) → level < 2 → P level
below_two P a b zero low = a
below_two P a b (suc zero) low = b
below_two P a b (suc (suc more)) low = absurd (omega arith)

below_three : (P : ℕ → Type 0) → P 0 → P 1 → P 2 → (level : ℕ) → level < 3 → P level
below_three P a b c zero low = a
below_three P a b c (suc zero) low = b
below_three P a b c (suc (suc zero)) low = c
below_three P a b c (suc (suc (suc more))) low = absurd (omega arith)

-- the seven kinds of leaf: those of 4 KiB, of 16 KiB and of 64 KiB, each from the lowest table on
pub by_level : (P : (granule level : ℕ) → Type 0) → P 12 0 → P 12 1 → P 12 2 → P 14 0 → P 14 1 → P 16 0 → P 16 1 →
    {granule : ℕ} → IsGranule granule → (level : ℕ) → IsTrue (has_leaves granule level) → P granule level
by_level P a b c d e f g {granule} is level leaves =
    by_granule (λ n. IsTrue (has_leaves n level) → P n level)
    (λ low. below_three (P 12) a b c level (ltb-true _ _ low))
    (λ low. below_two (P 14) d e level (ltb-true _ _ low))
    (λ low. below_two (P 16) f g level (ltb-true _ _ low))
    is leaves

-- what proofs need to know of the sizes of a level with leaves
pub record HasRoom (granule level : ℕ) : Type 0 where
  pub low : level < 3
  pub below : level < levels_of granule
  pub some : 0 < group_log2 granule level
  pub fits : granule + (entry_size granule level + group_log2 granule level) ≤ 48

pub room : {granule : ℕ} → IsGranule granule → (level : ℕ) → IsTrue (has_leaves granule level) → HasRoom granule level
room = by_level HasRoom (holds 12 0 (omega arith) (omega arith) (omega arith) (omega arith))
    (holds 12 1 (omega arith) (omega arith) (omega arith) (omega arith))
    (holds 12 2 (omega arith) (omega arith) (omega arith) (omega arith))
    (holds 14 0 (omega arith) (omega arith) (omega arith) (omega arith))
    (holds 14 1 (omega arith) (omega arith) (omega arith) (omega arith))
    (holds 16 0 (omega arith) (omega arith) (omega arith) (omega arith))
    (holds 16 1 (omega arith) (omega arith) (omega arith) (omega arith))
  where
    holds : (granule level : ℕ) → level < 3 → level < levels_of granule → 0 < group_log2 granule level →
        granule + (entry_size granule level + group_log2 granule level) ≤ 48 → HasRoom granule level
    holds granule level low below some fits = record { low = low; below = below; some = some; fits = fits }

pub few_levels : {granule : ℕ} → IsGranule granule → (3 ≤ levels_of granule) × (levels_of granule ≤ 4)
few_levels = by_granule (λ granule. (3 ≤ levels_of granule) × (levels_of granule ≤ 4))
    (omega arith, omega arith) (omega arith, omega arith) (omega arith, omega arith)

pub granule_range : {granule : ℕ} → IsGranule granule → (12 ≤ granule) × (granule ≤ 16)
granule_range = by_granule (λ granule. (12 ≤ granule) × (granule ≤ 16))
    (omega arith, omega arith) (omega arith, omega arith) (omega arith, omega arith)

-- Multiples of a power of two: what is below a sum of powers
pub two_digits : (n k more : ℕ) → n % 2 ^ (k + more) ≡ (n / 2 ^ k % 2 ^ more) * 2 ^ k + n % 2 ^ k
two_digits n k more =
    let both : 2 ^ (k + more) ≡ 2 ^ more * 2 ^ k = pow-add 2 k more ∙ (let s : 2 ^ k * 2 ^ more ≡ 2 ^ more * 2 ^ k = omega arith in s) in
    ap (λ w. n % w) both ∙ mod-mul n {m = 2 ^ more} {c = 2 ^ k} (pow_pos more) (pow_pos k)

-- a multiple of a power is one of a lesser power
pub lesser : (n k more : ℕ) → n % 2 ^ (k + more) ≡ 0 → n % 2 ^ k ≡ 0
lesser n k more aligned =
    let split = two_digits n k more in
    omega arith

-- own pages as those of a part of a greater block
pub record IsPart (own k more : ℕ) : Type 0 where
  pub out : ℕ
  pub part : ℕ
  pub aligned : out % 2 ^ (k + more) ≡ 0
  pub less : out ≤ own
  pub few : part < 2 ^ more
  pub own_is : out + part * 2 ^ k ≡ own

pub part_of : (own k more : ℕ) → own % 2 ^ k ≡ 0 → IsPart own k more
part_of own k more aligned =
    let low = two_digits own k more in
    let sum = shr_split own (k + more) in
    record {
      out = own / 2 ^ (k + more) * 2 ^ (k + more);
      part = own / 2 ^ k % 2 ^ more;
      aligned = multiple (own / 2 ^ (k + more)) (k + more);
      less = omega arith;
      few = mod_below (own / 2 ^ k) (2 ^ more) (pow_pos more);
      own_is = omega arith;
    }

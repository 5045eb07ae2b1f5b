-- Ranges of whole pages in a space without a sign.
use Rattle.std.proofs.Common.{◌≡◌, ℕ, ◌+◌, ◌-◌, ◌*◌, ◌/◌, ◌%◌, ◌^◌, ◌<◌, ◌≤◌, true, false, Some, None, inl, inr, refl, ap, sym, ◌∙◌, arith}
use Rattle.std.specs.Prelude.{nat_lt}
use Rattle.std.proofs.lemmas.Bool.{cases_eq, eqb-true, false_from_ne_true, lt-ltb, ltb-true, cases_Bool}
use Rattle.std.proofs.lemmas.Nat.{mul-le, pow-add, pow_pos, shr_high, shr_split}
use Rattle.std.proofs.Math.Pow.{pow_mono}
use Rattle.pt_model.specs.Layout.{Layout}
use Rattle.pt_model.specs.Pages.{has_page, is_whole, page_under, range_at}
use Rattle.pt_format.specs.Laws.{IsLayout}
use Rattle.pt_format.proofs.PageFacts.{range_some}

small_mod : (n k : ℕ) → n < 2 ^ k → n % 2 ^ k ≡ n
small_mod n k less =
    let s = shr_split n k in
    let z : n / 2 ^ k ≡ 0 = ap (λ (m : ℕ). m / 2 ^ k) (let e : n ≡ 0 * 2 ^ k + n = omega arith in e) ∙ shr_high 0 k n less in
    let none : n / 2 ^ k * 2 ^ k ≡ 0 = ap (λ (q : ℕ). q * 2 ^ k) z ∙ (let e : 0 * 2 ^ k ≡ 0 = omega arith in e) in
    omega arith

module _ {f : Layout} (good : IsLayout f) (unsigned : f.signed ≡ false) (va len : ℕ) (whole_va : is_whole f va ≡ true) (whole_len : is_whole f len ≡ true) (some : 0 < len) where
  abbrev a : ℕ
  a = va / 2 ^ f.granule

  abbrev b : ℕ
  b = len / 2 ^ f.granule

  va_is : va ≡ va / 2 ^ f.granule * 2 ^ f.granule
  va_is = let z : va % 2 ^ f.granule ≡ 0 = eqb-true (va % 2 ^ f.granule) 0 whole_va in let s = shr_split va f.granule in omega arith

  len_is : len ≡ len / 2 ^ f.granule * 2 ^ f.granule
  len_is = let z : len % 2 ^ f.granule ≡ 0 = eqb-true (len % 2 ^ f.granule) 0 whole_len in let s = shr_split len f.granule in omega arith

  sum_is : va + len ≡ (va / 2 ^ f.granule + len / 2 ^ f.granule) * 2 ^ f.granule
  sum_is = let x = va_is in let y = len_is in omega arith

  input_is : 2 ^ f.input ≡ 2 ^ (f.input - f.granule) * 2 ^ f.granule
  input_is = ap (λ (k : ℕ). 2 ^ k) (let low = good.input_low in let e : f.input ≡ f.input - f.granule + f.granule = omega arith in e) ∙ pow-add 2 (f.input - f.granule) f.granule

  has_is : (n : ℕ) → has_page f n ≡ nat_lt n (2 ^ f.input)
  has_is n = rw unsigned refl

  pub range_is : va / 2 ^ f.granule + len / 2 ^ f.granule ≤ 2 ^ (f.input - f.granule) → range_at f va len ≡ Some (va / 2 ^ f.granule, len / 2 ^ f.granule)
  range_is fits =
      let pages = pow_pos f.granule in
      let sum = sum_is in
      let input = input_is in
      let within = mul-le (va / 2 ^ f.granule + len / 2 ^ f.granule) (2 ^ f.granule) (2 ^ (f.input - f.granule)) (2 ^ f.granule) fits (omega arith) in
      let word : 2 ^ f.input ≤ 2 ^ 64 = pow_mono good.input_high in
      let first : page_under f va ≡ va / 2 ^ f.granule = ap (λ (n : ℕ). n / 2 ^ f.granule) (small_mod va f.input (omega arith)) in
      let x = va_is in
      let y = len_is in
      let more : 0 < len / 2 ^ f.granule = count_some in
      let last_is : va + len - 1 ≡ (va / 2 ^ f.granule + len / 2 ^ f.granule - 1) * 2 ^ f.granule + (2 ^ f.granule - 1) =
      (let split : (va / 2 ^ f.granule + len / 2 ^ f.granule - 1) * 2 ^ f.granule + 2 ^ f.granule ≡ (va / 2 ^ f.granule + len / 2 ^ f.granule) * 2 ^ f.granule =
      (let g : (va / 2 ^ f.granule + len / 2 ^ f.granule - 1 + 1) * 2 ^ f.granule ≡ (va / 2 ^ f.granule + len / 2 ^ f.granule - 1) * 2 ^ f.granule + 2 ^ f.granule = omega arith in
      sym g ∙ ap (λ (n : ℕ). n * 2 ^ f.granule) (let e : va / 2 ^ f.granule + len / 2 ^ f.granule - 1 + 1 ≡ va / 2 ^ f.granule + len / 2 ^ f.granule = omega arith in e)) in omega arith) in
      let last : page_under f (va + len - 1) ≡ va / 2 ^ f.granule + len / 2 ^ f.granule - 1 =
      ap (λ (n : ℕ). n / 2 ^ f.granule) (small_mod (va + len - 1) f.input (omega arith) ∙ last_is) ∙ shr_high (va / 2 ^ f.granule + len / 2 ^ f.granule - 1) f.granule (2 ^ f.granule - 1) (omega arith) in
      range_some f va len (has_is va ∙ lt-ltb va (2 ^ f.input) (omega arith)) (has_is (va + len - 1) ∙ lt-ltb (va + len - 1) (2 ^ f.input) (omega arith)) (omega arith)
      (ap (λ (n : ℕ). n + len / 2 ^ f.granule) first ∙ (let e : va / 2 ^ f.granule + len / 2 ^ f.granule ≡ va / 2 ^ f.granule + len / 2 ^ f.granule - 1 + 1 = omega arith in e) ∙ ap (λ (n : ℕ). n + 1) (sym last))
      ∙ ap (λ (n : ℕ). Some (n, len / 2 ^ f.granule)) first
    where
      count_some : 0 < len / 2 ^ f.granule
      count_some = let y = len_is in elim (cases_eq (len / 2 ^ f.granule) 0) [
        | inl e ↦ absurd (let z : len / 2 ^ f.granule * 2 ^ f.granule ≡ 0 = ap (λ (q : ℕ). q * 2 ^ f.granule) e ∙ (let n : 0 * 2 ^ f.granule ≡ 0 = omega arith in n) in omega arith)
        | inr more ↦ omega arith
      ]

  pub range_none : ¬ (va / 2 ^ f.granule + len / 2 ^ f.granule ≤ 2 ^ (f.input - f.granule)) → range_at f va len ≡ None
  range_none past =
      let sum = sum_is in
      let input = input_is in
      let pages = pow_pos f.granule in
      let over = mul-le (2 ^ (f.input - f.granule) + 1) (2 ^ f.granule) (va / 2 ^ f.granule + len / 2 ^ f.granule) (2 ^ f.granule) (omega arith) (omega arith) in
      let off : has_page f (va + len - 1) ≡ false = has_is (va + len - 1) ∙ false_from_ne_true (nat_lt (va + len - 1) (2 ^ f.input)) (λ t. let less = ltb-true (va + len - 1) (2 ^ f.input) t in omega arith) in
      elim (cases_Bool (has_page f va)) [ inl on ↦ rw (on, off) refl | inr out ↦ rw out refl ]

-- A range of whole pages and the pages of its bytes.
use Rattle.std.proofs.Common.{◌≡◌, ℕ, ◌+◌, ◌-◌, ◌*◌, ◌/◌, ◌%◌, ◌^◌, ◌<◌, ◌≤◌, ◌⊎◌, Bool, true, false, Some, None, inl, inr, refl, ap, sym, ◌∙◌, arith}
use Rattle.std.specs.Prelude.{IsTrue, nat_le, nat_lt, ◌&&◌, ◌||◌, ◌==◌, if◌then◌else◌}
use Rattle.std.proofs.lemmas.Bool.{and_from, and_parts, cases_lt, eqb-true, eq-eqb, leb-true, le-leb, lt-ltb, ltb-true}
use Rattle.std.proofs.lemmas.Nat.{mod_below, mod_low, mul-le, pow-add, pow_pos, shr_below, shr_high, shr_le, shr_split}
use Rattle.std.proofs.Math.Pow.{mod-mod-pow, pow_mono}
use Rattle.pt_model.specs.Layout.{Layout}
use Rattle.pt_model.specs.Pages.{HasPages, has_page, is_whole, page_under, range_at}

-- a number whose remainder is so many more, and a number that is smaller than the modulus
mod_more : (a k i : ℕ) → a % 2 ^ k + i < 2 ^ k → (a + i) % 2 ^ k ≡ a % 2 ^ k + i
mod_more a k i less =
    let split = shr_split a k in
    let whole : a + i ≡ a / 2 ^ k * 2 ^ k + (a % 2 ^ k + i) = omega arith in
    let quotient : (a + i) / 2 ^ k ≡ a / 2 ^ k = ap (λ n. n / 2 ^ k) whole ∙ shr_high (a / 2 ^ k) k (a % 2 ^ k + i) less in
    let again = shr_split (a + i) k in
    let same : (a + i) / 2 ^ k * 2 ^ k ≡ a / 2 ^ k * 2 ^ k = ap (λ n. n * 2 ^ k) quotient in
    omega arith

-- the pages behind a whole number of bytes
div_more : (r g i : ℕ) → r % 2 ^ g ≡ 0 → (r + i) / 2 ^ g ≡ r / 2 ^ g + i / 2 ^ g
div_more r g i whole =
    let low = shr_split r g in
    let more = shr_split i g in
    let sum : r + i ≡ (r / 2 ^ g + i / 2 ^ g) * 2 ^ g + i % 2 ^ g = omega arith in
    ap (λ n. n / 2 ^ g) sum ∙ shr_high (r / 2 ^ g + i / 2 ^ g) g (i % 2 ^ g) (mod_below i (2 ^ g) (pow_pos g))

-- what is some, and what is none
some_same : (t : Bool) (x y : ℕ) → (if t then Some x else None) ≡ Some y → (t ≡ true) × (x ≡ y)
some_same true x y e = let same : x ≡ y = cc in (refl, same)
some_same false x y e = absurd (let no : ⊥ = cc in no)

abbrev pair : ℕ → ℕ → ℕ × ℕ
pair a n = (a, n)

pair_same : (t : Bool) (a n p m : ℕ) → (if t then Some (pair a n) else None) ≡ Some (pair p m) → (t ≡ true) × (a ≡ p) × (n ≡ m)
pair_same true a n p m e =
    let same : pair a n ≡ pair p m = cc in
    (refl, ap (λ (x : ℕ × ℕ). x.0) same, ap (λ (x : ℕ × ℕ). x.1) same)
pair_same false a n p m e = absurd (let no : ⊥ = cc in no)

-- one of two tests holds
either : (s t : Bool) → (s || t) ≡ true → (s ≡ true) ⊎ (t ≡ true)
either true t e = inl refl
either false t e = inr e

first_of : (s t : Bool) → s ≡ true → (s || t) ≡ true
first_of true t e = refl
first_of false t e = absurd (let no : ⊥ = cc in no)

second_of : (s t : Bool) → t ≡ true → (s || t) ≡ true
second_of true t e = refl
second_of false t e = e

-- whether an address has a page, by the bits of the input
abbrev has_by : (signed : Bool) → (input address : ℕ) → Bool
has_by signed input address =
    if signed
    then nat_lt address (2 ^ (input - 1)) || nat_le (2 ^ 64 - 2 ^ (input - 1)) address
    else nat_lt address (2 ^ input)

-- the low half and the high one meet where the input has 64 bits alone
halves_meet : (input last : ℕ) → 1 ≤ input → input ≤ 64 → last < 2 ^ input → 2 ^ 64 - 2 ^ (input - 1) ≤ last → 2 ^ 64 - 2 ^ (input - 1) ≡ 2 ^ (input - 1)
halves_meet input last some few below high = elim (cases_lt input 64) [
  | inl short ↦
      let half : 2 ^ (input - 1) ≤ 2 ^ 62 = pow_mono (let e : input - 1 ≤ 62 = omega arith in e) in
      let all : 2 ^ input ≤ 2 ^ 63 = pow_mono (let e : input ≤ 63 = omega arith in e) in
      absurd (omega arith)
  | inr long ↦
      let wide : input ≡ 64 = omega arith in
      ap (λ k. 2 ^ 64 - 2 ^ (k - 1)) wide ∙ sym (ap (λ k. 2 ^ (k - 1)) wide)
]

-- the bytes from one that has a page to another have one each, where all are of one 2 ^ input
between : (signed : Bool) (input va len i : ℕ) → 1 ≤ input → input ≤ 64 → va % 2 ^ input + len ≤ 2 ^ input → i < len →
    has_by signed input va ≡ true → has_by signed input (va + len - 1) ≡ true → has_by signed input (va + i) ≡ true
between false input va len i some few one less first last =
    let below = ltb-true (va + len - 1) (2 ^ input) last in lt-ltb (va + i) (2 ^ input) (omega arith)
between true input va len i some few one less first last =
    elim (either (nat_lt va (2 ^ (input - 1))) (nat_le (2 ^ 64 - 2 ^ (input - 1)) va) first) [
      | inr high ↦
          let from = leb-true (2 ^ 64 - 2 ^ (input - 1)) va high in
          second_of _ (nat_le (2 ^ 64 - 2 ^ (input - 1)) (va + i)) (le-leb (2 ^ 64 - 2 ^ (input - 1)) (va + i) (omega arith))
      | inl low ↦
          let below = ltb-true va (2 ^ (input - 1)) low in
          elim (cases_lt (va + i) (2 ^ (input - 1))) [
            | inl here ↦ first_of (nat_lt (va + i) (2 ^ (input - 1))) _ (lt-ltb (va + i) (2 ^ (input - 1)) here)
            | inr over ↦
                let to = reaches (either (nat_lt (va + len - 1) (2 ^ (input - 1))) (nat_le (2 ^ 64 - 2 ^ (input - 1)) (va + len - 1)) last) over in
                let short : 2 ^ (input - 1) ≤ 2 ^ input = pow_mono (let e : input - 1 ≤ input = omega arith in e) in
                let same : va % 2 ^ input ≡ va = small va input (omega arith) in
                let meet = halves_meet input (va + len - 1) some few (omega arith) to in
                second_of _ (nat_le (2 ^ 64 - 2 ^ (input - 1)) (va + i)) (le-leb (2 ^ 64 - 2 ^ (input - 1)) (va + i) (omega arith))
          ]
    ]
  where
    small : (n k : ℕ) → n < 2 ^ k → n % 2 ^ k ≡ n
    small n k below = let zero_is : 0 * 2 ^ k + n ≡ n = omega arith in sym (ap (λ m. m % 2 ^ k) zero_is) ∙ mod_low 0 k n below

    reaches : (nat_lt (va + len - 1) (2 ^ (input - 1)) ≡ true) ⊎ (nat_le (2 ^ 64 - 2 ^ (input - 1)) (va + len - 1) ≡ true) → 2 ^ (input - 1) ≤ va + i →
        2 ^ 64 - 2 ^ (input - 1) ≤ va + len - 1
    reaches (inl low) over = let below = ltb-true (va + len - 1) (2 ^ (input - 1)) low in absurd (omega arith)
    reaches (inr high) over = leb-true (2 ^ 64 - 2 ^ (input - 1)) (va + len - 1) high

module _ (f : Layout) (va len : ℕ) (low : f.granule < f.input) (high : f.input ≤ 64) (fits : va < 2 ^ 64)
    (whole_va : IsTrue (is_whole f va)) (whole_len : IsTrue (is_whole f len)) (some : 0 < len) where
  -- the bits above the granule's
  bits_are : f.input - f.granule + f.granule ≡ f.input
  bits_are = omega arith

  here_whole : va % 2 ^ f.input % 2 ^ f.granule ≡ 0
  here_whole =
      let bits = bits_are in
      ap (λ k. va % 2 ^ k % 2 ^ f.granule) (sym bits) ∙ mod-mod-pow va (f.input - f.granule) f.granule ∙ eqb-true (va % 2 ^ f.granule) 0 whole_va

  len_is : len / 2 ^ f.granule * 2 ^ f.granule ≡ len
  len_is = let none = eqb-true (len % 2 ^ f.granule) 0 whole_len in let split = shr_split len f.granule in omega arith

  -- a range whose first and last pages have as many between them doesn't go over a border of 2 ^ input bytes
  one_round : page_under f va + len / 2 ^ f.granule ≡ page_under f (va + len - 1) + 1 → va % 2 ^ f.input + len ≤ 2 ^ f.input
  one_round runs =
      let bits = bits_are in
      let last : page_under f (va + len - 1) < 2 ^ (f.input - f.granule) =
      shr_below ((va + len - 1) % 2 ^ f.input) (f.input - f.granule) f.granule (rw bits (mod_below (va + len - 1) (2 ^ f.input) (pow_pos f.input))) in
      let power : 2 ^ (f.input - f.granule) * 2 ^ f.granule ≡ 2 ^ f.input = sym (pow-add 2 (f.input - f.granule) f.granule) ∙ ap (λ k. 2 ^ k) bits in
      let pages : (va % 2 ^ f.input / 2 ^ f.granule + len / 2 ^ f.granule) * 2 ^ f.granule ≤ 2 ^ (f.input - f.granule) * 2 ^ f.granule =
      mul-le (va % 2 ^ f.input / 2 ^ f.granule + len / 2 ^ f.granule) (2 ^ f.granule) (2 ^ (f.input - f.granule)) (2 ^ f.granule) (omega arith) (omega arith) in
      let split = shr_split (va % 2 ^ f.input) f.granule in
      let whole = here_whole in
      let long = len_is in
      omega arith

  under_more : (i : ℕ) → va % 2 ^ f.input + len ≤ 2 ^ f.input → i < len → page_under f (va + i) ≡ page_under f va + i / 2 ^ f.granule
  under_more i one less =
      ap (λ n. n / 2 ^ f.granule) (mod_more va f.input i (omega arith)) ∙ div_more (va % 2 ^ f.input) f.granule i here_whole

  pub bytes_of_range : (p n : ℕ) → range_at f va len ≡ Some (p, n) → (n ≡ len / 2 ^ f.granule) × HasPages f va len p
  bytes_of_range p n e =
      let found = pair_same _ (page_under f va) (len / 2 ^ f.granule) p n e in
      let tests = and_parts (has_page f va) _ found.0 in
      let more = and_parts (has_page f (va + len - 1)) _ tests.1 in
      let runs = eqb-true _ _ (and_parts (nat_le (va + len) (2 ^ 64)) _ more.1).1 in
      let one = one_round runs in (
        sym found.2,
        (λ i less.
            let has : has_page f (va + i) ≡ true = between f.signed f.input va len i (omega arith) high one less tests.0 more.0 in
            rw has (ap (λ m. Some m) (under_more i one less ∙ ap (λ m. m + i / 2 ^ f.granule) found.1))),
      )

  -- the last byte is of the last page
  last_page : (len - 1) / 2 ^ f.granule + 1 ≡ len / 2 ^ f.granule
  last_page =
      let long = len_is in
      let pages : 0 < len / 2 ^ f.granule = elim (cases_lt 0 (len / 2 ^ f.granule)) [
        | inl more ↦ more
        | inr none ↦ let zero_is : len / 2 ^ f.granule ≡ 0 = omega arith in let product : len / 2 ^ f.granule * 2 ^ f.granule ≡ 0 = ap (λ q. q * 2 ^ f.granule) zero_is ∙ omega arith in absurd (omega arith)
      ] in
      let unit = pow_pos f.granule in
      let back : (len / 2 ^ f.granule - 1 + 1) * 2 ^ f.granule ≡ len = ap (λ q. q * 2 ^ f.granule) (let e : len / 2 ^ f.granule - 1 + 1 ≡ len / 2 ^ f.granule = omega arith in e) ∙ long in
      let split : (len / 2 ^ f.granule - 1 + 1) * 2 ^ f.granule ≡ (len / 2 ^ f.granule - 1) * 2 ^ f.granule + 2 ^ f.granule = omega arith in
      let last : len - 1 ≡ (len / 2 ^ f.granule - 1) * 2 ^ f.granule + (2 ^ f.granule - 1) = omega arith in
      let page = ap (λ m. m / 2 ^ f.granule) last ∙ shr_high (len / 2 ^ f.granule - 1) f.granule (2 ^ f.granule - 1) (omega arith) in
      omega arith

  pub range_of_bytes : (p : ℕ) → HasPages f va len p → range_at f va len ≡ Some (p, len / 2 ^ f.granule)
  range_of_bytes p pages =
      let start : va + 0 ≡ va = omega arith in
      let end : va + (len - 1) ≡ va + len - 1 = omega arith in
      let first = some_same (has_page f (va + 0)) (page_under f (va + 0)) (p + 0 / 2 ^ f.granule) (pages 0 some) in
      let last = some_same (has_page f (va + (len - 1))) (page_under f (va + (len - 1))) (p + (len - 1) / 2 ^ f.granule) (pages (len - 1) (omega arith)) in
      let none : 0 / 2 ^ f.granule ≡ 0 = (let small = shr_le 0 f.granule in omega arith) in
      let first_has : has_page f va ≡ true = ap (λ a. has_page f a) (sym start) ∙ first.0 in
      let last_has : has_page f (va + len - 1) ≡ true = ap (λ a. has_page f a) (sym end) ∙ last.0 in
      let first_is : page_under f va ≡ p = ap (λ a. page_under f a) (sym start) ∙ first.1 ∙ (let e : p + 0 / 2 ^ f.granule ≡ p = omega arith in e) in
      let last_is : page_under f (va + len - 1) ≡ p + (len - 1) / 2 ^ f.granule = ap (λ a. page_under f a) (sym end) ∙ last.1 in
      let count = last_page in
      let runs : page_under f va + len / 2 ^ f.granule ≡ page_under f (va + len - 1) + 1 = omega arith in
      let within : va + len ≤ 2 ^ 64 = fits_word (one_round runs) in
      let tests : (has_page f va && (has_page f (va + len - 1) && (nat_le (va + len) (2 ^ 64)
      && (page_under f va + len / 2 ^ f.granule == page_under f (va + len - 1) + 1)))) ≡ true =
      and_from (has_page f va) _ first_has (and_from (has_page f (va + len - 1)) _ last_has
      (and_from (nat_le (va + len) (2 ^ 64)) _ (le-leb (va + len) (2 ^ 64) within) (eq-eqb _ _ runs))) in
      ap (λ (t : Bool). if t then Some (pair (page_under f va) (len / 2 ^ f.granule)) else None) tests
      ∙ ap (λ m. Some (pair m (len / 2 ^ f.granule))) first_is
    where
      -- an address of 64 bits and the bytes up to its border of 2 ^ input
      fits_word : va % 2 ^ f.input + len ≤ 2 ^ f.input → va + len ≤ 2 ^ 64
      fits_word one =
          let bits : 64 - f.input + f.input ≡ 64 = omega arith in
          let round : va / 2 ^ f.input < 2 ^ (64 - f.input) = shr_below va (64 - f.input) f.input (rw bits fits) in
          let power : 2 ^ (64 - f.input) * 2 ^ f.input ≡ 2 ^ 64 = sym (pow-add 2 (64 - f.input) f.input) ∙ ap (λ k. 2 ^ k) bits in
          let rounds : (va / 2 ^ f.input + 1) * 2 ^ f.input ≤ 2 ^ (64 - f.input) * 2 ^ f.input =
          mul-le (va / 2 ^ f.input + 1) (2 ^ f.input) (2 ^ (64 - f.input)) (2 ^ f.input) (omega arith) (omega arith) in
          let split = shr_split va f.input in
          let one_more : (va / 2 ^ f.input + 1) * 2 ^ f.input ≡ va / 2 ^ f.input * 2 ^ f.input + 2 ^ f.input = omega arith in
          omega arith

-- The multiples of a power of two below a number.
use Rattle.std.proofs.Common.{◌≡◌, ℕ, zero, suc, ◌+◌, ◌-◌, ◌*◌, ◌/◌, ◌%◌, ◌^◌, ◌<◌, ◌≤◌, ◌≢◌, ap, sym, subst, ◌∙◌, arith, inl, inr}
use Rattle.std.proofs.lemmas.Nat.{pow_pos, shr_le, shr_split, mod_below, shr_high, mod_low, pow-add, mod-pow-add, same_from_place, le-div, div_below}
use Rattle.std.proofs.lemmas.Bool.{cases_eq}
use Rattle.std.proofs.Math.Nat.{mul-le-mul_right, mul-le-mul_left}
use Rattle.pt_tile.specs.Counting.{begun}

-- a number by its quotient and remainder
begun_some : (t q r : ℕ) → 0 < r → r ≤ 2 ^ t → begun t (q * 2 ^ t + r) ≡ q + 1
begun_some t q zero some within = absurd (omega arith)
begun_some t q (suc r) some within =
    let e : q * 2 ^ t + suc r ≡ suc (q * 2 ^ t + r) = omega arith in
    rw e (let d : (q * 2 ^ t + r) / 2 ^ t ≡ q = shr_high q t r (omega arith) in omega arith)

pub begun_whole : (t q : ℕ) → begun t (q * 2 ^ t) ≡ q
begun_whole t zero = let e : 0 * 2 ^ t ≡ 0 = omega arith in ap (begun t) e
begun_whole t (suc q) =
    let e : suc q * 2 ^ t ≡ q * 2 ^ t + 2 ^ t = omega arith in
    rw e (begun_some t q (2 ^ t) (pow_pos t) (omega arith) ∙ omega arith)

-- what is begun is whole, and one more where a part is left
pub begun_parts : (t n q r : ℕ) → n / 2 ^ t ≡ q → n % 2 ^ t ≡ r → n ≡ q * 2 ^ t + r
begun_parts t n q r d m = subst (λ (a : ℕ). n ≡ a * 2 ^ t + r) d (subst (λ (b : ℕ). n ≡ n / 2 ^ t * 2 ^ t + b) m (sym (shr_split n t)))

pub begun_at : (t n : ℕ) → n % 2 ^ t ≡ 0 → begun t n ≡ n / 2 ^ t
begun_at t n e =
    let whole : n ≡ n / 2 ^ t * 2 ^ t = omega (arith, shr_split n t) in
    ap (begun t) whole ∙ begun_whole t (n / 2 ^ t)

pub begun_in : (t n w : ℕ) → 0 < n % 2 ^ t + w → n % 2 ^ t + w ≤ 2 ^ t → begun t (n + w) ≡ n / 2 ^ t + 1
begun_in t n w some within =
    let e : n + w ≡ n / 2 ^ t * 2 ^ t + (n % 2 ^ t + w) = omega (arith, shr_split n t) in
    ap (begun t) e ∙ begun_some t (n / 2 ^ t) (n % 2 ^ t + w) some within

pub begun_part : (t n : ℕ) → n % 2 ^ t ≢ 0 → begun t n ≡ n / 2 ^ t + 1
begun_part t n ne =
    let e : n + 0 ≡ n = omega arith in
    ap (begun t) (sym e) ∙ begun_in t n 0 (omega arith) (omega (arith, mod_below n (2 ^ t) (pow_pos t)))

pub begun_times : (t n : ℕ) → n % 2 ^ t ≡ 0 → begun t n * 2 ^ t ≡ n
begun_times t n e = rw (begun_at t n e) (omega (arith, shr_split n t))

pub begun_over : (t n : ℕ) → n ≤ begun t n * 2 ^ t
begun_over t n =
    elim (cases_eq (n % 2 ^ t) 0) [
      | inl e ↦ omega (arith, begun_times t n e)
      | inr ne ↦ rw (begun_part t n ne) (omega (arith, shr_split n t, mod_below n (2 ^ t) (pow_pos t)))
    ]

pub begun_mono : (t m n : ℕ) → m ≤ n → begun t m ≤ begun t n
begun_mono t zero n h = omega arith
begun_mono t (suc m) zero h = omega arith
begun_mono t (suc m) (suc n) h =
    let below : m / 2 ^ t * 2 ^ t ≤ n = omega (arith, shr_split m t) in
    omega (arith, le-div (m / 2 ^ t) n (2 ^ t) (pow_pos t) below)

pub whole_begun : (t n : ℕ) → n / 2 ^ t ≤ begun t n
whole_begun t n = elim (cases_eq (n % 2 ^ t) 0) [ inl e ↦ omega (arith, begun_at t n e) | inr ne ↦ omega (arith, begun_part t n ne) ]

-- an aligned part lies in one table
pub part_in : (t k n : ℕ) → k ≤ t → n % 2 ^ k ≡ 0 → n % 2 ^ t + 2 ^ k ≤ 2 ^ t
part_in t k n h e =
    let exponent : (t - k) + k ≡ t = omega arith in
    let split : n % 2 ^ t ≡ (n / 2 ^ k % 2 ^ (t - k)) * 2 ^ k + n % 2 ^ k =
    subst (λ (j : ℕ). n % 2 ^ j ≡ (n / 2 ^ k % 2 ^ (t - k)) * 2 ^ k + n % 2 ^ k) exponent (mod-pow-add n (t - k) k) in
    let power : 2 ^ t ≡ 2 ^ (t - k) * 2 ^ k = ap (λ (j : ℕ). 2 ^ j) (sym exponent) ∙ pow-add 2 (t - k) k in
    let below : n / 2 ^ k % 2 ^ (t - k) + 1 ≤ 2 ^ (t - k) = omega (arith, mod_below (n / 2 ^ k) (2 ^ (t - k)) (pow_pos (t - k))) in
    omega (arith, split, power, mul-le-mul_right (2 ^ k) below)

-- a multiple of a greater power
pub coarse_is_fine : (j k n : ℕ) → j ≤ k → n % 2 ^ k ≡ 0 → n % 2 ^ j ≡ 0
coarse_is_fine j k n h e =
    let exponent : (k - j) + j ≡ k = omega arith in
    let split : n % 2 ^ k ≡ (n / 2 ^ j % 2 ^ (k - j)) * 2 ^ j + n % 2 ^ j =
    subst (λ (i : ℕ). n % 2 ^ i ≡ (n / 2 ^ j % 2 ^ (k - j)) * 2 ^ j + n % 2 ^ j) exponent (mod-pow-add n (k - j) j) in
    omega (arith, split)

-- numbers that agree in their low bits agree in fewer
pub agree_fewer : (j k a b : ℕ) → j ≤ k → a % 2 ^ k ≡ b % 2 ^ k → a % 2 ^ j ≡ b % 2 ^ j
agree_fewer j k a b h e =
    let exponent : (k - j) + j ≡ k = omega arith in
    let one : a % 2 ^ k ≡ (a / 2 ^ j % 2 ^ (k - j)) * 2 ^ j + a % 2 ^ j =
    subst (λ (i : ℕ). a % 2 ^ i ≡ (a / 2 ^ j % 2 ^ (k - j)) * 2 ^ j + a % 2 ^ j) exponent (mod-pow-add a (k - j) j) in
    let two : b % 2 ^ k ≡ (b / 2 ^ j % 2 ^ (k - j)) * 2 ^ j + b % 2 ^ j =
    subst (λ (i : ℕ). b % 2 ^ i ≡ (b / 2 ^ j % 2 ^ (k - j)) * 2 ^ j + b % 2 ^ j) exponent (mod-pow-add b (k - j) j) in
    (same_from_place (a / 2 ^ j % 2 ^ (k - j)) (a % 2 ^ j) (b / 2 ^ j % 2 ^ (k - j)) (b % 2 ^ j) (2 ^ j)
    (mod_below a (2 ^ j) (pow_pos j)) (mod_below b (2 ^ j) (pow_pos j)) (sym one ∙ e ∙ two)).1

pub aligned_sum : (j k n : ℕ) → j ≤ k → n % 2 ^ j ≡ 0 → (n + 2 ^ k) % 2 ^ j ≡ 0
aligned_sum j k n h e =
    let power : 2 ^ k ≡ 2 ^ (k - j) * 2 ^ j = (let exponent : k ≡ (k - j) + j = omega arith in ap (λ (i : ℕ). 2 ^ i) exponent ∙ pow-add 2 (k - j) j) in
    let whole : n + 2 ^ k ≡ (n / 2 ^ j + 2 ^ (k - j)) * 2 ^ j + 0 = omega (arith, power, shr_split n j) in
    ap (λ (m : ℕ). m % 2 ^ j) whole ∙ mod_low (n / 2 ^ j + 2 ^ (k - j)) j 0 (pow_pos j)

-- two numbers that lie alike do so after a sum, and before it

mod_sum : (k a x : ℕ) → (a + x) % 2 ^ k ≡ (a % 2 ^ k + x) % 2 ^ k
mod_sum k a x =
    let whole : a + x ≡ (a / 2 ^ k + (a % 2 ^ k + x) / 2 ^ k) * 2 ^ k + (a % 2 ^ k + x) % 2 ^ k = omega (arith, shr_split a k, shr_split (a % 2 ^ k + x) k) in
    ap (λ (m : ℕ). m % 2 ^ k) whole ∙ mod_low (a / 2 ^ k + (a % 2 ^ k + x) / 2 ^ k) k ((a % 2 ^ k + x) % 2 ^ k) (mod_below (a % 2 ^ k + x) (2 ^ k) (pow_pos k))

pub alike_more : (k a b x : ℕ) → a % 2 ^ k ≡ b % 2 ^ k → (a + x) % 2 ^ k ≡ (b + x) % 2 ^ k
alike_more k a b x e = mod_sum k a x ∙ ap (λ (r : ℕ). (r + x) % 2 ^ k) e ∙ sym (mod_sum k b x)

mod_times : (k a x : ℕ) → (a + x * 2 ^ k) % 2 ^ k ≡ a % 2 ^ k
mod_times k a x =
    let whole : a + x * 2 ^ k ≡ (a / 2 ^ k + x) * 2 ^ k + a % 2 ^ k = omega (arith, shr_split a k) in
    ap (λ (m : ℕ). m % 2 ^ k) whole ∙ mod_low (a / 2 ^ k + x) k (a % 2 ^ k) (mod_below a (2 ^ k) (pow_pos k))

pub alike_less : (k a b x : ℕ) → (a + x) % 2 ^ k ≡ (b + x) % 2 ^ k → a % 2 ^ k ≡ b % 2 ^ k
alike_less k a b x e =
    let enough : x * 1 ≤ x * 2 ^ k = mul-le-mul_left x (pow_pos k) in
    let more : (a + x + (x * 2 ^ k - x)) % 2 ^ k ≡ (b + x + (x * 2 ^ k - x)) % 2 ^ k = alike_more k (a + x) (b + x) (x * 2 ^ k - x) e in
    let left : a + x + (x * 2 ^ k - x) ≡ a + x * 2 ^ k = omega (arith, enough) in
    let right : b + x + (x * 2 ^ k - x) ≡ b + x * 2 ^ k = omega (arith, enough) in
    sym (mod_times k a x) ∙ ap (λ (m : ℕ). m % 2 ^ k) (sym left) ∙ more ∙ ap (λ (m : ℕ). m % 2 ^ k) right ∙ mod_times k b x

-- whole runs

pub runs_below : (t m n : ℕ) → m % 2 ^ t ≡ 0 → m ≤ n → m ≤ n / 2 ^ t * 2 ^ t
runs_below t m n e h =
    let fits : m / 2 ^ t ≤ n / 2 ^ t = le-div (m / 2 ^ t) n (2 ^ t) (pow_pos t) (omega (arith, shr_split m t)) in
    omega (arith, shr_split m t, mul-le-mul_right (2 ^ t) fits)

pub runs_at_most : (t m n : ℕ) → m % 2 ^ t ≡ 0 → n < m + 2 ^ t → n / 2 ^ t * 2 ^ t ≤ m
runs_at_most t m n e h =
    let few : n / 2 ^ t < m / 2 ^ t + 1 = div_below n (2 ^ t) (m / 2 ^ t + 1) (pow_pos t) (omega (arith, shr_split m t)) in
    let le : n / 2 ^ t ≤ m / 2 ^ t = omega arith in
    omega (arith, shr_split m t, mul-le-mul_right (2 ^ t) le)

pub times_aligned : (t j q : ℕ) → t ≤ j → (q * 2 ^ j) % 2 ^ t ≡ 0
times_aligned t j q h =
    let whole : q * 2 ^ j ≡ q * 2 ^ j + 0 = omega arith in
    coarse_is_fine t j (q * 2 ^ j) h (ap (λ (m : ℕ). m % 2 ^ j) whole ∙ mod_low q j 0 (pow_pos j))

-- a part of a run that does not end it
pub same_table : (t n w : ℕ) → n % 2 ^ t + w ≤ 2 ^ t → (n + w) % 2 ^ t ≢ 0 → (n + w) / 2 ^ t ≡ n / 2 ^ t
same_table t n w within part =
    let e : n + w ≡ n / 2 ^ t * 2 ^ t + (n % 2 ^ t + w) = omega (arith, shr_split n t) in
    elim (cases_eq (n % 2 ^ t + w) (2 ^ t)) [
      | inl full ↦
          let whole : n + w ≡ (n / 2 ^ t + 1) * 2 ^ t + 0 = omega arith in
          absurd (part (ap (λ (m : ℕ). m % 2 ^ t) whole ∙ mod_low (n / 2 ^ t + 1) t 0 (pow_pos t)))
      | inr less ↦ ap (λ (m : ℕ). m / 2 ^ t) e ∙ shr_high (n / 2 ^ t) t (n % 2 ^ t + w) (omega arith)
    ]

pub begun_few : (t n : ℕ) → begun t n * 2 ^ t < n + 2 ^ t
begun_few t n =
    elim (cases_eq (n % 2 ^ t) 0) [
      | inl e ↦ omega (arith, begun_times t n e, pow_pos t)
      | inr ne ↦ rw (begun_part t n ne) (omega (arith, shr_split n t))
    ]

pub begun_most : (t n : ℕ) → begun t n ≤ n
begun_most t zero = omega arith
begun_most t (suc n) = omega (arith, shr_le n t)

pub none_whole : (t n : ℕ) → n / 2 ^ t ≡ 0 → n < 2 ^ t
none_whole t n e = let z : n / 2 ^ t * 2 ^ t ≡ 0 = rw e (omega arith) in omega (arith, z, shr_split n t, mod_below n (2 ^ t) (pow_pos t))

pub some_whole : (t n : ℕ) → n / 2 ^ t ≢ 0 → 2 ^ t ≤ n
some_whole t n ne =
    let one : 1 * 2 ^ t ≤ n / 2 ^ t * 2 ^ t = mul-le-mul_right (2 ^ t) (omega arith) in
    omega (arith, one, shr_split n t)

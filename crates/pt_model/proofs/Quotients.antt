-- Pages, entries and tables as quotients of page numbers.
use Rattle.std.proofs.Common.{◌≡◌, ℕ, ◌+◌, ◌-◌, ◌*◌, ◌/◌, ◌%◌, ◌^◌, ◌<◌, ◌≤◌, refl, ap, sym, ◌∙◌, arith}
use Rattle.std.proofs.lemmas.Nat.{shr_split, shr_high, shr-shr, pow-add, pow_pos, mod_below, mul-le, le-div}
use Rattle.std.proofs.Math.Nat.{div-eq_of_lt, div-lt_iff_lt-mul, div-mul-le_self, mul-le-mul_left}
use mathlib.Core.Logic.{dite}
use native.Mathlib.Decide.{ℕ_discrete, dec_le}
use Rattle.pt_model.specs.Layout.{Layout, pages_of_entry, pages_of_table}
use Rattle.pt_model.specs.Tables.{end_of_table, position_over, spine_position}
use Rattle.pt_model.proofs.Positions.{same_position}

-- Multiples of powers.

pub whole : (n k : ℕ) → n % 2 ^ k ≡ 0 → n ≡ n / 2 ^ k * 2 ^ k
whole n k e = let s = shr_split n k in omega arith

-- a multiple of a power that is at most a number, and within that power of it
pub multiple_under : (n k low : ℕ) → low % 2 ^ k ≡ 0 → low ≤ n → n < low + 2 ^ k → low / 2 ^ k ≡ n / 2 ^ k
multiple_under n k low aligned below over =
    let multiple : low ≡ low / 2 ^ k * 2 ^ k = whole low k aligned in
    let split : n ≡ low / 2 ^ k * 2 ^ k + (n - low) = omega (arith, multiple) in
    sym (ap (λ x. x / 2 ^ k) split ∙ shr_high (low / 2 ^ k) k (n - low) (omega arith))

-- the same above more bits
pub multiple_over : (n k j low : ℕ) → k ≤ j → low % 2 ^ k ≡ 0 → low ≤ n → n < low + 2 ^ k → n / 2 ^ j ≡ low / 2 ^ j
multiple_over n k j low small aligned below over =
    let bits : k + (j - k) ≡ j = omega arith in
    let more : (m : ℕ) → m / 2 ^ k / 2 ^ (j - k) ≡ m / 2 ^ j = λ m. shr-shr m k (j - k) ∙ ap (λ y. m / 2 ^ y) bits in
    sym (more n) ∙ ap (λ y. y / 2 ^ (j - k)) (sym (multiple_under n k low aligned below over)) ∙ more low

-- the next multiple of a power lies past a number
pub past_here : (n k : ℕ) → n < (n / 2 ^ k + 1) * 2 ^ k
past_here n k = let s = shr_split n k in let r = mod_below n (2 ^ k) (pow_pos k) in omega arith

-- a number from another one to before the next multiple of a power has the same quotient
pub same_quotient : (n m k : ℕ) → n ≤ m → m < (n / 2 ^ k + 1) * 2 ^ k → m / 2 ^ k ≡ n / 2 ^ k
same_quotient n m k low high =
    let s = shr_split n k in
    let q : ℕ = n / 2 ^ k * 2 ^ k in
    let split : m ≡ n / 2 ^ k * 2 ^ k + (m - q) = omega arith in
    ap (λ x. x / 2 ^ k) split ∙ shr_high (n / 2 ^ k) k (m - q) (omega arith)

-- the part of a number above some bits is at most the part above fewer
pub floor_le : (n j over : ℕ) → n / 2 ^ (over + j) * 2 ^ (over + j) ≤ n / 2 ^ j * 2 ^ j
floor_le n j over =
    let m : ℕ = n / 2 ^ (over + j) in
    let pages : 2 ^ (over + j) ≡ 2 ^ over * 2 ^ j = pow-add 2 over j in
    let first : m * 2 ^ (over + j) ≡ m * 2 ^ over * 2 ^ j = ap (λ x. m * x) pages ∙ (let g : m * (2 ^ over * 2 ^ j) ≡ m * 2 ^ over * 2 ^ j = omega arith in g) in
    let low : m * 2 ^ (over + j) ≤ n = div-mul-le_self n (2 ^ (over + j)) in
    let down : m * 2 ^ over ≤ n / 2 ^ j = le-div (m * 2 ^ over) n (2 ^ j) (pow_pos j) (omega (arith, first, low)) in
    let h = mul-le (m * 2 ^ over) (2 ^ j) (n / 2 ^ j) (2 ^ j) down (omega arith) in omega (arith, h, first)

-- what lies at whole multiples of some pages, from one of them and before the next, is that one
pub one_multiple : (m n e : ℕ) → m * e ≤ n * e → n * e < m * e + e → n ≡ m
one_multiple m n e low high = dite (ℕ_discrete n m) (λ s. s) (λ ne. absurd (dite (dec_le n m)
    (λ le. let h = mul-le (n + 1) e m e (omega arith) (omega arith) in
    dite (dec_le e 0) (λ z. omega (arith, high, low)) (λ pos. omega arith))
    (λ gt. let h = mul-le (m + 1) e n e (omega arith) (omega arith) in omega arith)))

-- The pages of a table are those of an entry one level up, and 2 ^ index times those of its own entries.

pub entry_some : (f : Layout) (level : ℕ) → 0 < pages_of_entry f level
entry_some f level = pow_pos (f.index * level)

pub entry_is_table : (f : Layout) (level : ℕ) → 0 < level → pages_of_entry f level ≡ pages_of_table f (level - 1)
entry_is_table f level high = let e : level ≡ level - 1 + 1 = omega arith in ap (λ k. 2 ^ (f.index * k)) e

pub table_is_entries : (f : Layout) (level : ℕ) → pages_of_table f level ≡ pages_of_entry f level * 2 ^ f.index
table_is_entries f level =
    let e : f.index * (level + 1) ≡ f.index * level + f.index = omega arith in ap (λ k. 2 ^ k) e ∙ pow-add 2 (f.index * level) f.index

pub quotient : (f : Layout) (here level : ℕ) → here / pages_of_entry f level / 2 ^ f.index ≡ here / pages_of_table f level
quotient f here level =
    let e : f.index * level + f.index ≡ f.index * (level + 1) = omega arith in
    shr-shr here (f.index * level) f.index ∙ ap (λ k. here / 2 ^ k) e

pub base_lemma : (above whole pages many part below : ℕ) → whole ≡ pages * many → above * many + part ≡ below →
    above * whole + part * pages ≡ below * pages
base_lemma above whole pages many part below e h =
    let regrouped : above * (pages * many) + part * pages ≡ (above * many + part) * pages = omega arith in
    ap (λ x. above * x + part * pages) e ∙ regrouped ∙ ap (λ x. x * pages) h

-- the entry of a higher table over a page ends where that of a lower one does or behind it
pub wider_entry : (f : Layout) (page low high : ℕ) → low ≤ high →
    (page / pages_of_entry f low + 1) * pages_of_entry f low ≤ (page / pages_of_entry f high + 1) * pages_of_entry f high
wider_entry f page low high less =
    let i : ℕ = f.index * low in
    let j : ℕ = f.index * high in
    let up : f.index * low ≤ f.index * high = mul-le-mul_left f.index less in
    let more : j ≡ (j - i) + i = omega arith in
    let size : 2 ^ j ≡ 2 ^ (j - i) * 2 ^ i = ap (λ (k : ℕ). 2 ^ k) more ∙ pow-add 2 (j - i) i in
    let regrouped : (page / 2 ^ j + 1) * 2 ^ j ≡ (page / 2 ^ j + 1) * 2 ^ (j - i) * 2 ^ i =
    ap (λ (n : ℕ). (page / 2 ^ j + 1) * n) size ∙ (let g : (page / 2 ^ j + 1) * (2 ^ (j - i) * 2 ^ i) ≡ (page / 2 ^ j + 1) * 2 ^ (j - i) * 2 ^ i = omega arith in g) in
    let past = past_here page j in
    let below : page / 2 ^ i < (page / 2 ^ j + 1) * 2 ^ (j - i) = (div-lt_iff_lt-mul (pow_pos i)).1 (omega arith) in
    let fits = mul-le (page / 2 ^ i + 1) (2 ^ i) ((page / 2 ^ j + 1) * 2 ^ (j - i)) (2 ^ i) (omega arith) (omega arith) in
    omega arith

-- a size has whole entries' bits, and those of its parts
pub size_split : (index log2 : ℕ) → 0 < index → log2 ≡ log2 - index * (log2 / index) + index * (log2 / index)
size_split index log2 positive = let h = div-mul-le_self log2 index in let c : log2 / index * index ≡ index * (log2 / index) = omega arith in omega (arith, h, c)

pub size_below : (index log2 : ℕ) → 0 < index → log2 ≤ index * (log2 / index + 1)
size_below index log2 positive =
    let m = mod_below log2 index positive in
    let s : log2 / index * index + log2 % index ≡ log2 = omega arith in
    let c : index * (log2 / index + 1) ≡ log2 / index * index + index = omega arith in omega arith

-- Positions over pages.

pub same_over : (f : Layout) (page other level : ℕ) → page / pages_of_table f level ≡ other / pages_of_table f level → position_over f page level ≡ position_over f other level
same_over f page other level e = ap (λ q. record { level = level; base = q * pages_of_table f level }) e

-- a table's pages have it over them
pub over_from : (f : Layout) (first page level : ℕ) → first ≤ page → page < end_of_table f (position_over f first level) → position_over f page level ≡ position_over f first level
over_from f first page level low high = same_over f page first level (same_quotient first page (f.index * (level + 1)) low (omega arith))

-- the root's table is over each page under it
pub root_over : (f : Layout) (page level : ℕ) → page < pages_of_table f level → spine_position level ≡ position_over f page level
root_over f page level under = same_position (spine_position level) (position_over f page level) refl
    (sym (ap (λ x. x * pages_of_table f level) (div-eq_of_lt under) ∙ (let z : 0 * pages_of_table f level ≡ 0 = omega arith in z)))

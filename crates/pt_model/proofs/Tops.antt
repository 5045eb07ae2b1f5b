-- The least top that reaches a page.
use Rattle.std.proofs.Common.{◌≡◌, ℕ, zero, suc, ◌+◌, ◌-◌, ◌*◌, ◌^◌, ◌<◌, ◌≤◌, refl, ap, sym, subst, arith, inl, inr, cond, List, [], ◌∷◌, Bool, true, false}
use Rattle.std.specs.Prelude.{nat_lt, count_by, max}
use Rattle.std.specs.List.{range_with_len}
use Rattle.std.proofs.lemmas.Nat.{pow_below}
use Rattle.std.proofs.lemmas.Bool.{cases_eq, cases_lt, cases_Bool, lt-ltb, le-ltb}
use Rattle.std.proofs.lemmas.List.Recursion.{is_count_by}
use Rattle.std.proofs.Math.Nat.{mul-le-mul_left}
use Rattle.pt_model.specs.Layout.{Layout, pages_of_table}
use Rattle.pt_model.specs.Tables.{least_top}

abbrev counted : (ℕ → Bool) → List ℕ → ℕ
counted p [] = 0
counted p (x ∷ xs) = cond (p x) (1 + counted p xs) (counted p xs)

counted_is : (p : ℕ → Bool) (xs : List ℕ) → counted p xs ≡ count_by p xs
counted_is p xs = is_count_by (counted p) p refl (λ x ys. refl) xs

-- the power of a greater exponent
pub power_mono : (a b : ℕ) → a ≤ b → 2 ^ a ≤ 2 ^ b
power_mono a b h = elim (cases_eq a b) [ inl e ↦ omega (arith, ap (λ (i : ℕ). 2 ^ i) e) | inr other ↦ omega (arith, pow_below a b (omega arith)) ]

pub table_mono : (g : Layout) (a b : ℕ) → a ≤ b → pages_of_table g a ≤ pages_of_table g b
table_mono g a b h =
    let more : a + 1 ≤ b + 1 = omega arith in
    power_mono (g.index * (a + 1)) (g.index * (b + 1)) (mul-le-mul_left g.index more)

-- the levels whose tables at page 0 end before a page, counted from a level on
abbrev short : Layout → ℕ → ℕ → Bool
short g end level = nat_lt (pages_of_table g level) end

count_none : (g : Layout) (end m low : ℕ) → end ≤ pages_of_table g low → counted (short g end) (range_with_len low m) ≡ 0
count_none g end zero low h = refl
count_none g end (suc m) low h =
    let no : nat_lt (pages_of_table g low) end ≡ false = le-ltb (pages_of_table g low) end h in
    rw no (count_none g end m (low + 1) (omega (arith, table_mono g low (low + 1) (omega arith))))

count_more : (g : Layout) (end m low j : ℕ) → j < m → pages_of_table g (low + j) < end →
    j < counted (short g end) (range_with_len low m)
count_more g end zero low j h e = absurd (omega arith)
count_more g end (suc m) low zero h e =
    let here : pages_of_table g low < end = omega (arith, table_mono g low (low + 0) (omega arith)) in
    let yes : nat_lt (pages_of_table g low) end ≡ true = lt-ltb (pages_of_table g low) end here in
    rw yes (omega arith)
count_more g end (suc m) low (suc j) h e =
    let here : pages_of_table g low < end = omega (arith, table_mono g low (low + suc j) (omega arith)) in
    let yes : nat_lt (pages_of_table g low) end ≡ true = lt-ltb (pages_of_table g low) end here in
    let next : pages_of_table g (low + 1 + j) < end = subst (λ (i : ℕ). pages_of_table g i < end) (omega arith) e in
    rw yes (omega (arith, count_more g end m (low + 1) j (omega arith) next))

count_few : (g : Layout) (end m low j : ℕ) → end ≤ pages_of_table g (low + j) →
    counted (short g end) (range_with_len low m) ≤ j
count_few g end zero low j e = omega arith
count_few g end (suc m) low zero e =
    let here : end ≤ pages_of_table g low = omega (arith, table_mono g (low + 0) low (omega arith)) in
    omega (arith, count_none g end (suc m) low here)
count_few g end (suc m) low (suc j) e =
    let next : end ≤ pages_of_table g (low + 1 + j) = subst (λ (i : ℕ). end ≤ pages_of_table g i) (omega arith) e in
    let rest : counted (short g end) (range_with_len (low + 1) m) ≤ j = count_few g end m (low + 1) j next in
    elim (cases_Bool (nat_lt (pages_of_table g low) end)) [
      | inl ends ↦ rw ends (omega (arith, rest))
      | inr goes ↦ rw goes (omega (arith, rest))
    ]

count_all : (p : ℕ → Bool) (m low : ℕ) → counted p (range_with_len low m) ≤ m
count_all p zero low = omega arith
count_all p (suc m) low =
    elim (cases_Bool (p low)) [
      | inl ends ↦ rw ends (omega (arith, count_all p m (low + 1)))
      | inr goes ↦ rw goes (omega (arith, count_all p m (low + 1)))
    ]

top_is : (g : Layout) (n end : ℕ) → least_top g n end ≡ max (n - 1) (counted (short g end) (range_with_len 0 g.levels))
top_is g n end = ap (λ (c : ℕ). max (n - 1) c) (sym (counted_is (short g end) (range_with_len 0 g.levels)))

pub top_low : (g : Layout) (n end : ℕ) → n - 1 ≤ least_top g n end
top_low g n end = omega (arith, top_is g n end)

-- a level above the least top has a table at page 0 that reaches the page
pub above_top : (g : Layout) (n end level : ℕ) → level < g.levels → least_top g n end < level + 1 → end ≤ pages_of_table g level
above_top g n end level h a =
    elim (cases_lt (pages_of_table g level) end) [
      | inl before ↦
          let here : pages_of_table g (0 + level) < end = omega (arith, table_mono g (0 + level) level (omega arith)) in
          absurd (omega (arith, count_more g end g.levels 0 level h here, top_is g n end))
      | inr reaches ↦ reaches
    ]

-- and the other way round, from the starting top on
pub reaches_top : (g : Layout) (n end level : ℕ) → n - 1 ≤ level → end ≤ pages_of_table g level → least_top g n end ≤ level
reaches_top g n end level low h =
    let here : end ≤ pages_of_table g (0 + level) = omega (arith, table_mono g level (0 + level) (omega arith)) in
    omega (arith, top_is g n end, count_few g end g.levels 0 level here)

pub top_mono : (g : Layout) (n a b : ℕ) → a ≤ b → least_top g n a ≤ least_top g n b
top_mono g n a b h =
    elim (cases_lt (least_top g n b) (least_top g n a)) [
      | inl more ↦
          let small : least_top g n b < g.levels = omega (arith, top_is g n a, top_low g n b, count_all (short g a) g.levels 0) in
          let reach : b ≤ pages_of_table g (least_top g n b) = above_top g n b (least_top g n b) small (omega arith) in
          reaches_top g n a (least_top g n b) (top_low g n b) (omega arith)
      | inr fine ↦ fine
    ]

-- the least top is one of the levels
pub top_below : (g : Layout) (n end : ℕ) → 1 ≤ n → n ≤ g.levels → 1 ≤ g.levels → end ≤ pages_of_table g (g.levels - 1) → least_top g n end < g.levels
top_below g n end some few levels reach =
    let low : n - 1 ≤ g.levels - 1 = omega arith in
    omega (arith, reaches_top g n end (g.levels - 1) low reach)

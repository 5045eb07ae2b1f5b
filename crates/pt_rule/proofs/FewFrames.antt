-- A list of numbers below n, none of them twice, has at most n.
use Rattle.std.proofs.Common.{◌≡◌, ◌≢◌, ℕ, zero, suc, Bool, ◌+◌, ◌<◌, ◌≤◌, List, [], ◌∷◌, length, refl, ap, subst, arith, eq-eqb, ne_eqb}
use Rattle.std.specs.Prelude.{◌==◌}
use mathlib.Core.Logic.{dite}
use native.Mathlib.Decide.{ℕ_discrete, dec_le}
use Rattle.pt_model.specs.Sets.{one_if}
use Rattle.pt_view.specs.Lists.{times}
use Rattle.pt_view.proofs.Members.{times_here}

-- f of each number below n, added up
abbrev pub sum_below : (ℕ → ℕ) → ℕ → ℕ
sum_below f zero = 0
sum_below f (suc n) = sum_below f n + f n

abbrev hit : ℕ → ℕ → ℕ
hit x g = one_if (x == g)

sum_le : (f : ℕ → ℕ) (n : ℕ) → ((g : ℕ) → g < n → f g ≤ 1) → sum_below f n ≤ n
sum_le f zero h = omega arith
sum_le f (suc n) h = let a = sum_le f n (λ g l. h g (omega arith)) in let b = h n (omega arith) in omega arith

sum_add : (a b : ℕ → ℕ) (n : ℕ) → sum_below (λ g. a g + b g) n ≡ sum_below a n + sum_below b n
sum_add a b zero = omega arith
sum_add a b (suc n) = let r = sum_add a b n in omega arith

bit_else : (x g : ℕ) → x ≢ g → hit x g ≡ 0
bit_else x g n = ap (λ (b : Bool). one_if b) (ne_eqb x g n)

bit_here : (x : ℕ) → hit x x ≡ 1
bit_here x = ap (λ (b : Bool). one_if b) (eq-eqb x x refl)

sum_none : (x n : ℕ) → n ≤ x → sum_below (λ g. hit x g) n ≡ 0
sum_none x zero h = refl
sum_none x (suc n) h = let a = sum_none x n (omega arith) in let b = bit_else x n (λ e. omega arith) in omega arith

sum_one : (x n : ℕ) → x < n → sum_below (λ g. hit x g) n ≡ 1
sum_one x zero h = absurd (omega arith)
sum_one x (suc n) h = dite (ℕ_discrete x n)
    (λ e. let a = sum_none x n (omega arith) in let b : hit x n ≡ 1 = subst (λ (z : ℕ). hit x z ≡ 1) e (bit_here x) in omega arith)
    (λ ne. let a = sum_one x n (omega arith) in let b = bit_else x n ne in omega arith)

sum_zero : (n : ℕ) → sum_below (λ g. 0) n ≡ 0
sum_zero zero = refl
sum_zero (suc n) = let a = sum_zero n in omega arith

pub length_sum : (n : ℕ) (xs : List ℕ) → ((g : ℕ) → n ≤ g → times g xs ≡ 0) → sum_below (λ g. times g xs) n ≡ length xs
length_sum n [] h = sum_zero n
length_sum n (x ∷ xs) h =
    let inside : x < n = dite (dec_le n x) (λ l. absurd (let a = h x l in let b = times_here x xs in omega arith)) (λ ne. omega arith) in
    let a = sum_add (λ g. hit x g) (λ g. times g xs) n in
    let b = sum_one x n inside in
    let c = length_sum n xs (λ g l. let d = h g l in omega arith) in
    omega arith

pub distinct_few : (n : ℕ) (xs : List ℕ) → ((g : ℕ) → g < n → times g xs ≤ 1) → ((g : ℕ) → n ≤ g → times g xs ≡ 0) → length xs ≤ n
distinct_few n xs once none = let a = length_sum n xs none in let b = sum_le (λ g. times g xs) n once in omega arith

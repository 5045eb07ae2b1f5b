-- A run of equal blocks at the front of a tiling.
use Rattle.std.proofs.Common.{◌≡◌, ℕ, zero, suc, ◌+◌, ◌-◌, ◌*◌, ◌/◌, ◌%◌, ◌^◌, ◌<◌, ◌≤◌, ◌++◌, ◌∷◌, List, ap, sym, subst, ◌∙◌, arith, inl, inr}
use Rattle.std.specs.Prelude.{IsTrue, Option, Some, None, ⊤, min}
use Rattle.std.proofs.lemmas.Nat.{pow_pos, shr_split, le-div, mod_below, mod_low}
use Rattle.std.proofs.Math.Nat.{mul-le-mul_right}
use Rattle.std.proofs.lemmas.Bool.{cases_lt}
use Rattle.pt_model.specs.declared.block.Block.{Block}
use Rattle.pt_model.specs.declared.block.Prot.{Prot}
use Rattle.pt_model.specs.Layout.{Layout, IsLegal, is_size, input_pages, output_pages}
use Rattle.pt_model.specs.Tiling.{IsGreatestSize, block_at, tiling}
use Rattle.pt_model.proofs.TilingFacts.{tiling_first}
use Rattle.pt_tile.specs.Sizes.{IsLarger}
use Rattle.pt_tile.specs.Runs.{run_blocks, MayBeGreater, IsRunEnd}
use Rattle.pt_tile.proofs.Begun.{runs_at_most, alike_less, alike_more, coarse_is_fine, aligned_sum}
use Rattle.pt_tile.proofs.Uncovered.{larger_moves}

-- two multiples of a power are a power apart
multiples_apart : (t m n : ℕ) → m % 2 ^ t ≡ 0 → n % 2 ^ t ≡ 0 → m < n → m + 2 ^ t ≤ n
multiples_apart t m n em en less =
    elim (cases_lt n (m + 2 ^ t)) [
      | inl near ↦ absurd (omega (arith, runs_at_most t m n em near, shr_split n t))
      | inr far ↦ far
    ]

-- the pages between two multiples of a power are whole runs of that power
pub whole_between : (t m n : ℕ) → m % 2 ^ t ≡ 0 → n % 2 ^ t ≡ 0 → m ≤ n → m + (n - m) / 2 ^ t * 2 ^ t ≡ n
whole_between t m n em en less =
    let sum : n - m + m ≡ n = omega arith in
    let sum' : m ≡ 0 + m = omega arith in
    let alike : (n - m + m) % 2 ^ t ≡ (0 + m) % 2 ^ t = ap (λ (x : ℕ). x % 2 ^ t) sum ∙ en ∙ sym em ∙ ap (λ (x : ℕ). x % 2 ^ t) sum' in
    let none : (n - m) % 2 ^ t ≡ 0 = alike_less t (n - m) 0 m alike ∙ omega arith in
    omega (arith, none, shr_split (n - m) t)

-- no multiple of a larger size's power is after page `first` and before page `end`
abbrev pub IsUpTo : (first : ℕ) → Option ℕ → (end : ℕ) → Type 0
IsUpTo first None end = ⊤
IsUpTo first (Some size) end = (end % 2 ^ size ≡ 0) × (end ≤ first + 2 ^ size)

-- no block of more than 2 ^ k pages is legal at a page of a range behind its first, whose outputs go along
abbrev pub HasNoGreater : Layout → (k first out end : ℕ) → Type 0
HasNoGreater g k first out end = (x j : ℕ) → 0 < x → first + x < end → IsLegal g (first + x) j (out + x) → j ≤ k

-- it stays so where the first page moves on
later_greater : (g : Layout) (k first out end x : ℕ) → HasNoGreater g k first out end → HasNoGreater g k (first + x) (out + x) end
later_greater g k first out end x none y j some before legal =
    let at : first + x + y ≡ first + (x + y) = omega arith in
    let to : out + x + y ≡ out + (x + y) = omega arith in
    none (x + y) j (omega arith) (omega arith) (subst (λ (n : ℕ). IsLegal g n j (out + (x + y))) at (subst (λ (n : ℕ). IsLegal g (first + x + y) j n) to legal))

-- up to the next place at which a larger block could begin there is none
pub none_up : (g : Layout) (k first out end : ℕ) (larger : Option ℕ) → IsLarger g (k + 1) first out larger → IsUpTo first larger end →
    HasNoGreater g k first out end
none_up g k first out end None l up x j some before legal =
    let moved = larger_moves g (k + 1) first out x None l in
    omega (arith, moved j legal.a_size (legal.first_aligned ∙ sym legal.out_aligned))
none_up g k first out end (Some size) l up x j some before legal =
    elim (cases_lt k j) [
      | inl above ↦
          let low : size ≤ j = l.3 j legal.a_size (omega arith) in
          let aligned : (first + x) % 2 ^ size ≡ 0 = coarse_is_fine size j (first + x) low legal.first_aligned in
          absurd (omega (arith, up.1, multiples_apart size (first + x) end aligned up.0 before))
      | inr within ↦ within
    ]

-- inside a table there is none, where 2 ^ k pages are the most of a block under one entry of it
pub none_inside : (g : Layout) (k first out end wide : ℕ) → end ≤ first / 2 ^ wide * 2 ^ wide + 2 ^ wide →
    ((j : ℕ) → IsTrue (is_size g j) → j < wide → j ≤ k) → HasNoGreater g k first out end
none_inside g k first out end wide under most x j some before legal =
    elim (cases_lt j wide) [
      | inl low ↦ most j legal.a_size low
      | inr high ↦
          let aligned : (first + x) % 2 ^ wide ≡ 0 = coarse_is_fine wide j (first + x) high legal.first_aligned in
          let base : first / 2 ^ wide * 2 ^ wide ≡ first / 2 ^ wide * 2 ^ wide + 0 = omega arith in
          let begins = ap (λ (m : ℕ). m % 2 ^ wide) base ∙ mod_low (first / 2 ^ wide) wide 0 (pow_pos wide) in
          absurd (omega (arith, multiples_apart wide (first / 2 ^ wide * 2 ^ wide) (first + x) begins aligned (omega (arith, shr_split first wide))))
    ]

-- the next block of a run is the greatest at its place
greatest_again : (g : Layout) (k first out left end : ℕ) → first + left ≤ input_pages g → out + left ≤ output_pages g →
    IsGreatestSize g first out left k → HasNoGreater g k first out end →
    2 ^ k + 2 ^ k ≤ left → first + 2 ^ k < end → IsGreatestSize g (first + 2 ^ k) (out + 2 ^ k) (left - 2 ^ k) k
greatest_again g k first out left end hi ho top none more before = record {
  legal = record {
    a_size = top.legal.a_size;
    first_aligned = aligned_sum k k first (omega arith) top.legal.first_aligned;
    out_aligned = aligned_sum k k out (omega arith) top.legal.out_aligned;
    in_input = omega arith;
    in_output = omega arith;
  };
  fits = omega arith;
  greatest = λ j legal fits. none (2 ^ k) j (pow_pos k) before legal;
}

-- tilings at equal numbers
same_tiling : (g : Layout) (prot : Prot) (a b c d m n : ℕ) → a ≡ b → c ≡ d → m ≡ n → tiling g prot a c m ≡ tiling g prot b d n
same_tiling g prot a b c d m n p q r = cc

-- a run of one block or more, behind which no greater one begins before its end, is the front of the tiling
pub run_is : (g : Layout) (prot : Prot) → IsTrue (is_size g 0) → (k end count first out left : ℕ) →
    first + left ≤ input_pages g → out + left ≤ output_pages g → IsGreatestSize g first out left k →
    HasNoGreater g k first out end → suc count * 2 ^ k ≤ left → first + suc count * 2 ^ k ≤ end →
    tiling g prot first out left
    ≡ run_blocks (suc count) k prot first out
    ++ tiling g prot (first + suc count * 2 ^ k) (out + suc count * 2 ^ k) (left - suc count * 2 ^ k)
run_is g prot z k end zero first out left hi ho top none fits before =
    let one : 2 ^ k ≡ suc zero * 2 ^ k = omega arith in
    tiling_first g prot first out left k z hi ho top
    ∙ ap (λ (x : ℕ). block_at first k out prot ∷ tiling g prot (first + x) (out + x) (left - x)) one
run_is g prot z k end (suc count) first out left hi ho top none fits before =
    let times : suc (suc count) * 2 ^ k ≡ 2 ^ k + suc count * 2 ^ k = omega arith in
    let some : 2 ^ k ≤ suc count * 2 ^ k = omega arith in
    let again = greatest_again g k first out left end hi ho top none (omega arith) (omega (arith, pow_pos k)) in
    let rest = run_is g prot z k end count (first + 2 ^ k) (out + 2 ^ k) (left - 2 ^ k) (omega arith) (omega arith) again
    (later_greater g k first out end (2 ^ k) none) (omega arith) (omega arith) in
    let place : tiling g prot (first + 2 ^ k + suc count * 2 ^ k) (out + 2 ^ k + suc count * 2 ^ k) (left - 2 ^ k - suc count * 2 ^ k)
    ≡ tiling g prot (first + suc (suc count) * 2 ^ k) (out + suc (suc count) * 2 ^ k) (left - suc (suc count) * 2 ^ k) =
    same_tiling g prot _ _ _ _ _ _ (omega arith) (omega arith) (omega arith) in
    tiling_first g prot first out left k z hi ho top
    ∙ ap (λ (t : List Block). block_at first k out prot ∷ t)
    (rest ∙ ap (λ (t : List Block). run_blocks (suc count) k prot (first + 2 ^ k) (out + 2 ^ k) ++ t) place)

-- the same, by a number of blocks that is not zero
pub run_some : (g : Layout) (prot : Prot) → IsTrue (is_size g 0) → (k end count first out left : ℕ) →
    first + left ≤ input_pages g → out + left ≤ output_pages g → IsGreatestSize g first out left k →
    HasNoGreater g k first out end → 1 ≤ count → count * 2 ^ k ≤ left → first + count * 2 ^ k ≤ end →
    tiling g prot first out left
    ≡ run_blocks count k prot first out ++ tiling g prot (first + count * 2 ^ k) (out + count * 2 ^ k) (left - count * 2 ^ k)
run_some g prot z k end zero first out left hi ho top none some fits before = absurd (omega arith)
run_some g prot z k end (suc count) first out left hi ho top none some fits before =
    run_is g prot z k end count first out left hi ho top none fits before

-- where a block fits, the number that fits is not zero
pub fitting_some : (k left : ℕ) → 2 ^ k ≤ left → 1 ≤ left / 2 ^ k
fitting_some k left fits = le-div 1 left (2 ^ k) (pow_pos k) (omega arith)

-- after them less than a block is left
pub fitting_last : (k left : ℕ) → left < (left / 2 ^ k + 1) * 2 ^ k
fitting_last k left = omega (arith, shr_split left k, mod_below left (2 ^ k) (pow_pos k))

-- no more blocks than that fit in what is left
pub fewer_fit : (k left count : ℕ) → count ≤ left / 2 ^ k → count * 2 ^ k ≤ left
fewer_fit k left count few = omega (arith, shr_split left k, mul-le-mul_right (2 ^ k) few)

-- the next place at which a larger block could begin
pub next_up : (first size down : ℕ) → down % 2 ^ size ≡ 0 → down ≤ first → IsUpTo first (Some size) (down + 2 ^ size)
next_up first size down aligned low = (aligned_sum size size down (omega arith) aligned, omega arith)

-- the blocks up to there are whole, and at least one
pub blocks_up : (g : Layout) (k first out left size end : ℕ) → IsGreatestSize g first out left k → IsLarger g (k + 1) first out (Some size) →
    IsUpTo first (Some size) end → first < end → (1 ≤ (end - first) / 2 ^ k) × (first + (end - first) / 2 ^ k * 2 ^ k ≡ end)
blocks_up g k first out left size end top l up before =
    let aligned : end % 2 ^ k ≡ 0 = coarse_is_fine k size end (omega (arith, l.1)) up.0 in
    let apart : first + 2 ^ k ≤ end = multiples_apart k first end top.legal.first_aligned aligned before in
    (le-div 1 (end - first) (2 ^ k) (pow_pos k) (omega arith), whole_between k first end top.legal.first_aligned aligned (omega arith))

-- a run that ends there ends where a larger block could begin
pub ends_up : (g : Layout) (k first out size end count : ℕ) → IsLarger g (k + 1) first out (Some size) →
    IsUpTo first (Some size) end → first + count * 2 ^ k ≡ end → MayBeGreater g k (first + count * 2 ^ k) (out + count * 2 ^ k)
ends_up g k first out size end count l up at =
    let aligned : (first + count * 2 ^ k) % 2 ^ size ≡ 0 = ap (λ (x : ℕ). x % 2 ^ size) at ∙ up.0 in
    (size, l.0, omega (arith, l.1), aligned, sym (alike_more size first out (count * 2 ^ k) l.2) ∙ aligned)

-- what is known of a run that is cut there and at what is left
pub record IsCut (g : Layout) (k first out left end count : ℕ) : Type 0 where
  pub some : 1 ≤ count
  pub fits : count * 2 ^ k ≤ left
  pub before : first + count * 2 ^ k ≤ end
  pub ends : IsRunEnd g first out left k count

-- the lesser of the blocks that fit and the blocks up to that page is such a run
pub cut_is : (g : Layout) (k first out left size end count : ℕ) → IsGreatestSize g first out left k →
    IsLarger g (k + 1) first out (Some size) → IsUpTo first (Some size) end → first < end →
    count ≡ min (left / 2 ^ k) ((end - first) / 2 ^ k) → IsCut g k first out left end count
cut_is g k first out left size end count top l up before e =
    let up_there = blocks_up g k first out left size end top l up before in
    let few : count ≤ left / 2 ^ k = omega arith in
    let near : count ≤ (end - first) / 2 ^ k = omega arith in
    record {
      some = omega (arith, fitting_some k left top.fits, up_there.0);
      fits = fewer_fit k left count few;
      before = omega (arith, up_there.1, mul-le-mul_right (2 ^ k) near);
      ends = elim (cases_lt ((end - first) / 2 ^ k) (left / 2 ^ k)) [
        | inl cut ↦
            let is : count ≡ (end - first) / 2 ^ k = omega arith in
            let at : first + count * 2 ^ k ≡ end = ap (λ (n : ℕ). first + n * 2 ^ k) is ∙ up_there.1 in
            inr (ends_up g k first out size end count l up at)
        | inr whole ↦
            let is : count ≡ left / 2 ^ k = omega arith in
            inl (subst (λ (n : ℕ). left < (n + 1) * 2 ^ k) (sym is) (fitting_last k left))
      ];
    }

-- Runs of equal blocks that come first in an extent's tiling.
use Rattle.std.proofs.Common.{◌≡◌, ℕ, zero, suc, ◌+◌, ◌-◌, ◌*◌, ◌%◌, ◌^◌, ◌<◌, ◌≤◌, List, ◌∷◌, ◌++◌, refl, ap, sym, ◌∙◌, subst, arith}
use Rattle.std.proofs.lemmas.Nat.{mul-le, pow_pos}
use Rattle.pt_model.specs.declared.block.Block.{Block}
use Rattle.pt_model.specs.declared.block.Prot.{Prot}
use Rattle.pt_model.specs.Layout.{Layout}
use Rattle.pt_model.specs.Tiling.{IsTiling, block_at, tiling}
use Rattle.pt_model.proofs.TilingFacts.{tiling_is, tiling_unique}
use Rattle.pt_format.specs.Laws.{IsLayout}
use Rattle.pt_tile.specs.Runs.{run_blocks}
use Rattle.pt_tile.proofs.FirstSizes.{extent_tiling, inputs_few}
use Rattle.pt_tile.specs.declared.extent.Extent.{Extent}
use Rattle.pt_tile.specs.Extents.{IsExtent, IsRun, first_size, from, tiles}

-- the blocks of a run that come first in a tiling are the tiling of their own pages
front_run : (f : Layout) (prot : Prot) (k n first out left : ℕ) (ys : List Block) → n * 2 ^ k ≤ left → IsTiling f prot first out left (run_blocks n k prot first out ++ ys) →
    IsTiling f prot first out (n * 2 ^ k) (run_blocks n k prot first out)
front_run f prot k zero first out left ys fits t = let none : 0 * 2 ^ k ≡ 0 = omega arith in none
front_run f prot k (suc n) first out left ys fits t = (
  refl,
  record { legal = t.1.legal; fits = omega arith; greatest = λ j legal small. t.1.greatest j legal (omega arith) },
  subst (λ (m : ℕ). IsTiling f prot (first + 2 ^ k) (out + 2 ^ k) m (run_blocks n k prot (first + 2 ^ k) (out + 2 ^ k))) (let e : n * 2 ^ k ≡ suc n * 2 ^ k - 2 ^ k = omega arith in e)
      (front_run f prot k n (first + 2 ^ k) (out + 2 ^ k) (left - 2 ^ k) ys (omega arith) t.2),
)

-- what a run's count tells of a part
pub run_is : (f : Layout) (x : Extent) (k n : ℕ) → x.first < x.end → k ≡ first_size f x → 1 ≤ n → n * 2 ^ k ≤ x.end - x.first →
    tiling f x.prot x.first x.out (x.end - x.first) ≡ run_blocks n k x.prot x.first x.out ++ tiling f x.prot (x.first + n * 2 ^ k) (x.out + n * 2 ^ k) (x.end - x.first - n * 2 ^ k) → IsRun f x n
run_is f x k n more e some fits run =
    let fits' : n * 2 ^ first_size f x ≤ x.end - x.first = subst (λ (j : ℕ). n * 2 ^ j ≤ x.end - x.first) e fits in
    let out : x.out + n * 2 ^ first_size f x ≡ x.out + (x.first + n * 2 ^ first_size f x - x.first) = omega arith in
    let left : x.end - x.first - n * 2 ^ first_size f x ≡ x.end - (x.first + n * 2 ^ first_size f x) = omega arith in
    record {
      some = some;
      within = omega arith;
      run = subst (λ (j : ℕ). tiles f x ≡ run_blocks n j x.prot x.first x.out ++ tiling f x.prot (x.first + n * 2 ^ j) (x.out + n * 2 ^ j) (x.end - x.first - n * 2 ^ j)) e run
          ∙ (λ i. run_blocks n (first_size f x) x.prot x.first x.out ++ tiling f x.prot (x.first + n * 2 ^ first_size f x) (out i) (left i));
    }

moved : (f : Layout) (prot : Prot) (zs : List Block) (a d b e c g : ℕ) → a ≡ d → b ≡ e → c ≡ g → IsTiling f prot a b c zs → IsTiling f prot d e g zs
moved f prot zs a d b e c g x y z t =
    subst (λ (n : ℕ). IsTiling f prot n e g zs) x (subst (λ (n : ℕ). IsTiling f prot a n g zs) y (subst (λ (n : ℕ). IsTiling f prot a b n zs) z t))

-- a tiling that begins with a run begins with fewer of its blocks, and the rest tiles the pages after them
fewer : (f : Layout) (prot : Prot) (k m n first out left : ℕ) (ys : List Block) → m ≤ n → IsTiling f prot first out left (run_blocks n k prot first out ++ ys) →
    (zs : List Block) × (run_blocks n k prot first out ++ ys ≡ run_blocks m k prot first out ++ zs) × IsTiling f prot (first + m * 2 ^ k) (out + m * 2 ^ k) (left - m * 2 ^ k) zs
fewer f prot k zero n first out left ys few t =
    let a : first ≡ first + 0 * 2 ^ k = omega arith in
    let b : out ≡ out + 0 * 2 ^ k = omega arith in
    let c : left ≡ left - 0 * 2 ^ k = omega arith in
    (run_blocks n k prot first out ++ ys, refl, moved f prot (run_blocks n k prot first out ++ ys) _ _ _ _ _ _ a b c t)
fewer f prot k (suc m) zero first out left ys few t = absurd (omega arith)
fewer f prot k (suc m) (suc n) first out left ys few t =
    let r = fewer f prot k m n (first + 2 ^ k) (out + 2 ^ k) (left - 2 ^ k) ys (omega arith) t.2 in
    let a : first + 2 ^ k + m * 2 ^ k ≡ first + suc m * 2 ^ k = omega arith in
    let b : out + 2 ^ k + m * 2 ^ k ≡ out + suc m * 2 ^ k = omega arith in
    let c : left - 2 ^ k - m * 2 ^ k ≡ left - suc m * 2 ^ k = omega arith in
    (r.0, ap (λ (bs : List Block). block_at first k out prot ∷ bs) r.1, moved f prot r.0 _ _ _ _ _ _ a b c r.2)

-- fewer blocks of a run are one
pub run_fewer : (f : Layout) (good : IsLayout f) (x : Extent) → IsExtent f x → (n m : ℕ) → IsRun f x n → 1 ≤ m → m ≤ n → IsRun f x m
run_fewer f good x part n m is some few =
    let k : ℕ = first_size f x in
    let more = part.some in
    let input = part.in_input in
    let output = part.in_output in
    let within = is.within in
    let less = mul-le m (2 ^ first_size f x) n (2 ^ first_size f x) few (omega arith) in
    let all : IsTiling f x.prot x.first x.out (x.end - x.first) (run_blocks n (first_size f x) x.prot x.first x.out ++ tiles f (from x (x.first + n * 2 ^ first_size f x))) =
    subst (λ (bs : List Block). IsTiling f x.prot x.first x.out (x.end - x.first) bs) is.run (extent_tiling good part) in
    let r = fewer f x.prot (first_size f x) m n x.first x.out (x.end - x.first) (tiles f (from x (x.first + n * 2 ^ first_size f x))) few all in
    let rest = tiling_unique f x.prot (x.first + m * 2 ^ first_size f x) (x.out + m * 2 ^ first_size f x) (x.end - x.first - m * 2 ^ first_size f x) _ _ r.2
    (tiling_is f x.prot (x.first + m * 2 ^ first_size f x) (x.out + m * 2 ^ first_size f x) (x.end - x.first - m * 2 ^ first_size f x) good.has_pages (omega arith) (omega arith)) in
    run_is f x (first_size f x) m more refl some (omega arith) (is.run ∙ r.1 ∙ ap (λ (bs : List Block). run_blocks m (first_size f x) x.prot x.first x.out ++ bs) rest)

module _ {f : Layout} (good : IsLayout f) {x : Extent} (part : IsExtent f x) {count : ℕ} (is : IsRun f x count) where
  -- the page after it
  abbrev pub run_end : ℕ
  run_end = x.first + count * 2 ^ first_size f x

  pub run_from : x.first < run_end
  run_from =
      let pages = pow_pos (first_size f x) in
      let some = mul-le 1 (2 ^ first_size f x) count (2 ^ first_size f x) is.some (omega arith) in omega arith

  -- it is the tiling of its pages
  pub run_tiles : tiles f (record x { end = run_end }) ≡ run_blocks count (first_size f x) x.prot x.first x.out
  run_tiles =
      let some = part.some in
      let input = part.in_input in
      let output = part.in_output in
      let within = is.within in
      let all : IsTiling f x.prot x.first x.out (x.end - x.first) (run_blocks count (first_size f x) x.prot x.first x.out ++ tiles f (from x run_end)) =
      subst (λ (bs : List Block). IsTiling f x.prot x.first x.out (x.end - x.first) bs) is.run (extent_tiling good part) in
      let same : run_end - x.first ≡ count * 2 ^ first_size f x = omega arith in
      ap (λ (n : ℕ). tiling f x.prot x.first x.out n) same
      ∙ tiling_unique f x.prot x.first x.out (count * 2 ^ first_size f x) _ _ (tiling_is f x.prot x.first x.out (count * 2 ^ first_size f x) good.has_pages (omega arith) (omega arith))
      (front_run f x.prot (first_size f x) count x.first x.out (x.end - x.first) (tiles f (from x run_end)) (omega arith) all)

  pub run_split : tiles f x ≡ tiles f (record x { end = run_end }) ++ tiles f (from x run_end)
  run_split = is.run ∙ ap (λ (bs : List Block). bs ++ tiles f (from x run_end)) (sym run_tiles)

  -- the page after it, by a shift of one word
  pub run_shifted : (k : ℕ) → k ≡ first_size f x → x.first + count * 2 ^ k % 2 ^ 64 ≡ run_end
  run_shifted k e =
      let same : count * 2 ^ k ≡ count * 2 ^ first_size f x = ap (λ (j : ℕ). count * 2 ^ j) e in
      let within = is.within in
      let input = part.in_input in
      let few = inputs_few f good in omega arith

  pub run_fits : (k : ℕ) → k ≡ first_size f x → x.first + count * 2 ^ k % 2 ^ 64 < 2 ^ 64
  run_fits k e =
      let end = run_shifted k e in
      let within = is.within in
      let input = part.in_input in
      let few = inputs_few f good in omega arith

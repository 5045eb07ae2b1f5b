-- The size of the first block of an extent's tiling.
use Rattle.std.proofs.Common.{◌≡◌, ℕ, ◌+◌, ◌-◌, ◌%◌, ◌<◌, ◌≤◌, ◌^◌, inl, inr, arith}
use Rattle.std.specs.Prelude.{IsTrue}
use Rattle.std.proofs.lemmas.Bool.{cases_lt}
use Rattle.std.proofs.lemmas.Nat.{pow_below}
use Rattle.std.proofs.Math.Pow.{pow_mono}
use Rattle.pt_model.specs.Layout.{Layout, is_size, input_pages, output_pages}
use Rattle.pt_model.specs.Tiling.{IsGreatestSize, IsTiling}
use Rattle.pt_model.proofs.TilingFacts.{tiling_is}
use Rattle.pt_format.specs.Laws.{IsLayout}
use Rattle.pt_tile.specs.Sizes.{HasAllSizes}
use Rattle.pt_tile.proofs.TileFacts.{greatest_is, one_greatest, step_is_size}
use Rattle.pt_num.specs.Steps.{IsGreatestStep}
use Rattle.pt_num.proofs.Bits.{exponent_below}
use Rattle.pt_tile.specs.declared.extent.Extent.{Extent}
use Rattle.pt_tile.specs.Extents.{IsExtent, first_size, tiles}

-- an input page has 52 bits at most
pub inputs_few : (f : Layout) → IsLayout f → input_pages f ≤ 2 ^ 52
inputs_few f good = let bits : f.input - f.granule ≤ 52 = omega (arith, good.pages_high) in pow_mono bits

-- an output page has 52 bits at most
pub outputs_few : (f : Layout) → IsLayout f → output_pages f ≤ 2 ^ 52
outputs_few f good = let bits : f.output - f.granule ≤ 52 = omega (arith, good.output_high, good.granule_low) in pow_mono bits

module _ {f : Layout} (good : IsLayout f) {x : Extent} (part : IsExtent f x) where
  pub extent_tiling : IsTiling f x.prot x.first x.out (x.end - x.first) (tiles f x)
  extent_tiling =
      let some = part.some in let input = part.in_input in
      tiling_is f x.prot x.first x.out (x.end - x.first) good.has_pages (omega arith) part.in_output

  pub size_greatest : IsGreatestSize f x.first x.out (x.end - x.first) (first_size f x)
  size_greatest =
      let some = part.some in let input = part.in_input in let output = part.in_output in
      greatest_is f x.first x.out (x.end - x.first) good.has_pages (omega arith) (omega arith) output

  -- it is the greatest step by the format's sizes
  pub size_is : (sizes k : ℕ) → HasAllSizes f sizes → IsGreatestStep x.first x.out (x.end - x.first) sizes k → k ≡ first_size f x
  size_is sizes k all h =
      let some = part.some in let input = part.in_input in
      one_greatest f x.first x.out (x.end - x.first) k (first_size f x)
      (step_is_size f x.first x.out (x.end - x.first) sizes k all (omega arith) part.in_output h) size_greatest

  -- the first block ends within the part
  pub size_ends : x.first + 2 ^ first_size f x ≤ x.end
  size_ends = let fits = size_greatest.fits in let some = part.some in omega arith

  -- it is a shift of one word
  pub size_small : first_size f x < 64
  size_small =
      let input = part.in_input in let few = inputs_few f good in let ends = size_ends in
      exponent_below (first_size f x) x.end (omega arith) (omega arith)

  -- it is that of a legal block of all of its pages
  pub block_size : (k : ℕ) → IsTrue (is_size f k) → x.first % 2 ^ k ≡ 0 → x.out % 2 ^ k ≡ 0 → x.end - x.first ≡ 2 ^ k → k ≡ first_size f x
  block_size k size first out whole =
      let some = part.some in let input = part.in_input in let output = part.in_output in
      one_greatest f x.first x.out (x.end - x.first) k (first_size f x) (record {
        legal = record { a_size = size; first_aligned = first; out_aligned = out; in_input = omega arith; in_output = omega arith };
        fits = omega arith;
        greatest = λ j legal fits. elim (cases_lt k j) [ inl more ↦ absurd (let wide = pow_below k j more in omega arith) | inr few ↦ few ];
      }) size_greatest

-- What a step of the tiling is, and the greatest size at a place.
use Rattle.std.proofs.Common.{◌≡◌, ℕ, zero, suc, ◌+◌, ◌<◌, ◌≤◌, ◌≢◌, ◌↔◌, List, ◌∷◌, length, arith, ap, sym, subst}
use Rattle.std.specs.Prelude.{IsTrue, IsBitSet, Some, ⊤}
use Rattle.std.specs.Iterator.{MakesProgress, item_count}
use Rattle.pt_model.specs.declared.block.Block.{Block}
use Rattle.pt_model.specs.Layout.{Layout, is_size, input_pages, output_pages}
use Rattle.pt_model.specs.Tiling.{IsGreatestSize, greatest_size}
use Rattle.pt_model.specs.declared.block.Prot.TheVariants.{Read}
use Rattle.pt_model.proofs.TilingFacts.{tiling_is}
use Rattle.pt_num.specs.Steps.{IsGreatestStep}

-- the greatest step by the sizes of a format is the greatest legal size
pub step_is_size : (g : Layout) (first out left mask k : ℕ) →
    ((j : ℕ) → IsBitSet mask j ↔ IsTrue (is_size g j)) →
    first + left ≤ input_pages g → out + left ≤ output_pages g →
    IsGreatestStep first out left mask k → IsGreatestSize g first out left k
step_is_size g first out left mask k sizes hi ho s = record {
  legal = record {
    a_size = (sizes k).0 s.step.a_size;
    first_aligned = s.step.first_aligned;
    out_aligned = s.step.out_aligned;
    in_input = omega (arith, s.step.fits);
    in_output = omega (arith, s.step.fits);
  };
  fits = s.step.fits;
  greatest = λ j legal fits. s.greatest j (record {
    a_size = (sizes j).1 legal.a_size;
    first_aligned = legal.first_aligned;
    out_aligned = legal.out_aligned;
    fits = fits;
  });
}

-- `greatest_size` is the greatest size
pub greatest_is : (g : Layout) (first out left : ℕ) → IsTrue (is_size g 0) → 0 < left →
    first + left ≤ input_pages g → out + left ≤ output_pages g → IsGreatestSize g first out left (greatest_size g first out left)
greatest_is g first out zero z some hi ho = absurd (omega arith)
greatest_is g first out (suc more) z some hi ho = (tiling_is g Read first out (suc more) z hi ho).1

pub greatest_at : (g : Layout) (first out left k : ℕ) → IsTrue (is_size g 0) → left ≢ 0 →
    first + left ≤ input_pages g → out + left ≤ output_pages g → k ≡ greatest_size g first out left → IsGreatestSize g first out left k
greatest_at g first out left k z some hi ho e =
    subst (λ (n : ℕ). IsGreatestSize g first out left n) (sym e) (greatest_is g first out left z (omega arith) hi ho)

-- and no other number is
pub one_greatest : (g : Layout) (first out left j k : ℕ) → IsGreatestSize g first out left j → IsGreatestSize g first out left k → j ≡ k
one_greatest g first out left j k a b = omega (arith, a.greatest k b.legal b.fits, b.greatest j a.legal a.fits)

-- the greatest step is `greatest_size`
pub step_is : (g : Layout) (first out left mask k : ℕ) → ((j : ℕ) → IsBitSet mask j ↔ IsTrue (is_size g j)) → IsTrue (is_size g 0) → left ≢ 0 →
    first + left ≤ input_pages g → out + left ≤ output_pages g → IsGreatestStep first out left mask k → k ≡ greatest_size g first out left
step_is g first out left mask k sizes z some hi ho s =
    one_greatest g first out left k (greatest_size g first out left) (step_is_size g first out left mask k sizes hi ho s)
    (greatest_is g first out left z (omega arith) hi ho)

-- a list that gives its first item makes progress
pub progress : (s t : List Block) (b : Block) → s ≡ b ∷ t →
    MakesProgress (λ _. ⊤) (item_count (λ blocks. blocks)) s (Some b) t
progress s t b e = record {
  on = λ finite. (tt, tt, omega (arith, ap length e));
  keeps = tt;
  rests = λ finite. tt;
}

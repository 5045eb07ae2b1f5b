-- There is one tiling, and `tiling` gives it.
use Rattle.std.proofs.Common.{◌≡◌, ℕ, zero, suc, ◌+◌, ◌-◌, ◌%◌, ◌^◌, ◌≤◌, ◌<◌, ◌∷◌, [], List, refl, ap, sym, subst, ◌∙◌, arith, Bool, true, inl, inr}
use Rattle.std.specs.Prelude.{IsTrue, ◌==◌, ◌&&◌, nat_le}
use Rattle.std.proofs.lemmas.Nat.{pow_pos, pow_below}
use Rattle.std.proofs.lemmas.Bool.{cases_Bool, cases_eq, false≢true, and_parts, and_from, leb-true, eqb-true, eq-eqb, le-leb, cases_lt}
use Rattle.pt_model.specs.declared.block.Block.{Block}
use Rattle.pt_model.specs.declared.block.Prot.{Prot}
use Rattle.pt_model.specs.Layout.{Layout, IsLegal, is_size, pages, input_pages, output_pages}
use Rattle.pt_model.specs.Tiling.{IsTiling, IsGreatestSize, block_at, tiling, tiling_within, greatest_size, fits_at, largest_below}

pub tiling_unique : (g : Layout) (prot : Prot) (first out left : ℕ) (xs ys : List Block) →
    IsTiling g prot first out left xs → IsTiling g prot first out left ys → xs ≡ ys
tiling_unique g prot first out left [] [] h k = refl
tiling_unique g prot first out left [] (c ∷ cs) h k = absurd (omega (arith, pow_pos c.log2, k.1.fits))
tiling_unique g prot first out left (b ∷ bs) [] h k = absurd (omega (arith, pow_pos b.log2, h.1.fits))
tiling_unique g prot first out left (b ∷ bs) (c ∷ cs) h k =
    let same : b.log2 ≡ c.log2 =
    omega (arith, k.1.greatest b.log2 h.1.legal h.1.fits, h.1.greatest c.log2 k.1.legal k.1.fits) in
    let head : b ≡ c = h.0 ∙ ap (λ n. block_at first n out prot) same ∙ sym k.0 in
    let rest : IsTiling g prot (first + pages c) (out + pages c) (left - pages c) bs =
    subst (λ (n : ℕ). IsTiling g prot (first + 2 ^ n) (out + 2 ^ n) (left - 2 ^ n) bs) same h.2 in
    let tail : bs ≡ cs =
    tiling_unique g prot (first + pages c) (out + pages c) (left - pages c) bs cs rest k.2 in
    cc

-- what `largest_below` answers
largest_passes : (p : ℕ → Bool) (n : ℕ) → p 0 ≡ true → p (largest_below p n) ≡ true
largest_passes p zero e = e
largest_passes p (suc n) e =
    elim (cases_Bool (p n)) [ inl t ↦ rw t t | inr f ↦ rw f (largest_passes p n e) ]

largest_above : (p : ℕ → Bool) (n k : ℕ) → k < n → p k ≡ true → k ≤ largest_below p n
largest_above p zero k h e = omega arith
largest_above p (suc n) k h e =
    elim (cases_Bool (p n)) [
      | inl t ↦ rw t (omega arith)
      | inr f ↦
          rw f (elim (cases_eq k n) [
            | inl same ↦ absurd (false≢true (sym f ∙ ap p (sym same) ∙ e))
            | inr other ↦ largest_above p n k (omega arith) e
          ])
    ]

-- a size that fits is legal there, and the other way round
fits_legal : (g : Layout) (first out left k : ℕ) →
    first + left ≤ input_pages g → out + left ≤ output_pages g →
    fits_at g first out left k ≡ true → IsLegal g first k out × (2 ^ k ≤ left)
fits_legal g first out left k hi ho e =
    let a : (is_size g k ≡ true) × (((first % 2 ^ k == 0) && ((out % 2 ^ k == 0) && nat_le (2 ^ k) left)) ≡ true) =
    and_parts (is_size g k) _ e in
    let b : ((first % 2 ^ k == 0) ≡ true) × (((out % 2 ^ k == 0) && nat_le (2 ^ k) left) ≡ true) = and_parts (first % 2 ^ k == 0) _ a.1 in
    let c : ((out % 2 ^ k == 0) ≡ true) × (nat_le (2 ^ k) left ≡ true) = and_parts (out % 2 ^ k == 0) _ b.1 in
    let fits : 2 ^ k ≤ left = leb-true (2 ^ k) left c.1 in (
      record {
        a_size = a.0;
        first_aligned = eqb-true (first % 2 ^ k) 0 b.0;
        out_aligned = eqb-true (out % 2 ^ k) 0 c.0;
        in_input = omega arith;
        in_output = omega arith;
      },
      fits,
    )

legal_fits : (g : Layout) (first out left k : ℕ) → IsLegal g first k out → 2 ^ k ≤ left →
    fits_at g first out left k ≡ true
legal_fits g first out left k l fits =
    and_from (is_size g k) _ l.a_size
    (and_from (first % 2 ^ k == 0) _ (eq-eqb (first % 2 ^ k) 0 l.first_aligned)
    (and_from (out % 2 ^ k == 0) (nat_le (2 ^ k) left) (eq-eqb (out % 2 ^ k) 0 l.out_aligned) (le-leb (2 ^ k) left fits)))

-- a legal size is at most the input's bits
size_below : (g : Layout) (first out k : ℕ) → IsLegal g first k out → k < g.input + 1
size_below g first out k l =
    elim (cases_lt g.input k) [
      | inl past ↦ absurd (omega (arith, pow_below (g.input - g.granule) k (omega arith), l.in_input))
      | inr within ↦ omega arith
    ]

greatest_size_is : (g : Layout) (first out left : ℕ) → IsTrue (is_size g 0) → 0 < left →
    first + left ≤ input_pages g → out + left ≤ output_pages g →
    IsGreatestSize g first out left (greatest_size g first out left)
greatest_size_is g first out left zero_size some hi ho =
    let page : IsLegal g first 0 out = record {
      a_size = zero_size;
      first_aligned = omega arith;
      out_aligned = omega arith;
      in_input = omega arith;
      in_output = omega arith;
    } in
    let passes : fits_at g first out left (greatest_size g first out left) ≡ true =
    largest_passes (fits_at g first out left) (g.input + 1) (legal_fits g first out left 0 page (omega arith)) in
    let l = fits_legal g first out left (greatest_size g first out left) hi ho passes in
    record {
      legal = l.0;
      fits = l.1;
      greatest = λ k legal fits.
          largest_above (fits_at g first out left) (g.input + 1) k (size_below g first out k legal)
          (legal_fits g first out left k legal fits);
    }

pub tiling_within_is : (g : Layout) (prot : Prot) → IsTrue (is_size g 0) → (fuel first out left : ℕ) → left ≤ fuel →
    first + left ≤ input_pages g → out + left ≤ output_pages g →
    IsTiling g prot first out left (tiling_within fuel g prot first out left)
tiling_within_is g prot z zero first out left h hi ho = omega arith
tiling_within_is g prot z (suc fuel) first out zero h hi ho = refl
tiling_within_is g prot z (suc fuel) first out (suc more) h hi ho =
    let k : ℕ = greatest_size g first out (suc more) in
    let top : IsGreatestSize g first out (suc more) (greatest_size g first out (suc more)) =
    greatest_size_is g first out (suc more) z (omega arith) hi ho in (
      refl,
      top,
      tiling_within_is g prot z fuel (first + 2 ^ greatest_size g first out (suc more)) (out + 2 ^ greatest_size g first out (suc more)) (suc more - 2 ^ greatest_size g first out (suc more))
          (omega (arith, pow_pos (greatest_size g first out (suc more)), top.fits)) (omega (arith, top.fits)) (omega (arith, top.fits)),
    )

pub tiling_is : (g : Layout) (prot : Prot) (first out left : ℕ) → IsTrue (is_size g 0) →
    first + left ≤ input_pages g → out + left ≤ output_pages g →
    IsTiling g prot first out left (tiling g prot first out left)
tiling_is g prot first out left z hi ho = tiling_within_is g prot z left first out left (omega arith) hi ho

-- a greatest block is the first of the tiling, and the rest tiles what is left
pub tiling_first : (g : Layout) (prot : Prot) (first out left k : ℕ) → IsTrue (is_size g 0) →
    first + left ≤ input_pages g → out + left ≤ output_pages g → IsGreatestSize g first out left k →
    tiling g prot first out left
    ≡ block_at first k out prot ∷ tiling g prot (first + 2 ^ k) (out + 2 ^ k) (left - 2 ^ k)
tiling_first g prot first out left k z hi ho top =
    tiling_unique g prot first out left _ _ (tiling_is g prot first out left z hi ho)
    (refl, top, tiling_is g prot (first + 2 ^ k) (out + 2 ^ k) (left - 2 ^ k) z (omega (arith, top.fits)) (omega (arith, top.fits)))

-- The tiling of a range: the greatest legal block at each place. It is this project's own rule. All numbers are pages.
use Rattle.std.specs.Prelude.{◌≡◌, ℕ, zero, suc, ◌+◌, ◌-◌, ◌%◌, ◌^◌, ◌≤◌, ◌&&◌, ◌==◌, nat_le, if◌then◌else◌, IsTrue, Bool, List, [], ◌∷◌}
use Rattle.pt_model.specs.declared.block.Block.{Block}
use Rattle.pt_model.specs.declared.block.Prot.{Prot}
use Rattle.pt_model.specs.Layout.{Layout, IsLegal, is_size, pages, input_pages, output_pages}

-- the greatest size of a legal block at these places that ends within the next `left` pages
pub record IsGreatestSize (g : Layout) (first out left log2 : ℕ) : Type 0 where
  pub legal : IsLegal g first log2 out
  pub fits : 2 ^ log2 ≤ left
  pub greatest : (k : ℕ) → IsLegal g first k out → 2 ^ k ≤ left → k ≤ log2

abbrev pub block_at : ℕ → ℕ → ℕ → Prot → Block
block_at first log2 out prot = record { first = first; log2 = log2; out = out; prot = prot }

-- the blocks follow each other over `left` pages from page `first`, their outputs from page `out`,
-- and each is the greatest at its place
abbrev pub IsTiling : Layout → Prot → ℕ → ℕ → ℕ → List Block → Type 0
IsTiling g prot first out left [] = left ≡ 0
IsTiling g prot first out left (b ∷ bs) =
    (b ≡ block_at first b.log2 out prot)
    × IsGreatestSize g first out left b.log2
    × IsTiling g prot (first + pages b) (out + pages b) (left - pages b) bs

-- whether 2 ^ k is a block size that divides these places and is at most `left`
abbrev pub fits_at : Layout → ℕ → ℕ → ℕ → ℕ → Bool
fits_at g first out left k =
    is_size g k && ((first % 2 ^ k == 0) && ((out % 2 ^ k == 0) && nat_le (2 ^ k) left))

-- the largest number below n that passes a test, or 0
abbrev pub largest_below : (ℕ → Bool) → ℕ → ℕ
largest_below p zero = 0
largest_below p (suc n) = if p n then n else largest_below p n

-- the greatest size that fits there
abbrev pub greatest_size : Layout → ℕ → ℕ → ℕ → ℕ
greatest_size g first out left = largest_below (fits_at g first out left) (g.input + 1)

-- the tiling as a list: `fuel` is at least the number of blocks
abbrev pub tiling_within : ℕ → Layout → Prot → ℕ → ℕ → ℕ → List Block
tiling_within zero g prot first out left = []
tiling_within (suc fuel) g prot first out zero = []
tiling_within (suc fuel) g prot first out (suc more) =
    let left = suc more in
    let k = greatest_size g first out left in
    block_at first k out prot ∷ tiling_within fuel g prot (first + 2 ^ k) (out + 2 ^ k) (left - 2 ^ k)

abbrev pub tiling : Layout → Prot → ℕ → ℕ → ℕ → List Block
tiling g prot first out left = tiling_within left g prot first out left

-- there is one tiling of a range, and `tiling` is it
abbrev pub HasOneTiling : Type 0
HasOneTiling =
    (g : Layout) (prot : Prot) (first out left : ℕ) →
    IsTrue (is_size g 0) →
    first + left ≤ input_pages g →
    out + left ≤ output_pages g →
    IsTiling g prot first out left (tiling g prot first out left)
    × ((blocks : List Block) → IsTiling g prot first out left blocks → blocks ≡ tiling g prot first out left)

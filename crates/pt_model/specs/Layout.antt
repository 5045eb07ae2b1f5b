-- A format of page tables as plain data: what the definitions take in place of a type parameter. Levels count
-- from 0, the lowest table. The numbers and words of each format come from its manual, which its crate names.
use Rattle.std.specs.Prelude.{◌≡◌, ℕ, ◌+◌, ◌-◌, ◌*◌, ◌/◌, ◌%◌, ◌^◌, ◌≤◌, Bool, true, false, List, ◌==◌, IsTrue}
use Rattle.std.specs.List.{list_any}
use Rattle.pt_model.specs.declared.block.Block.{Block}
use Rattle.pt_model.specs.declared.block.Prot.{Prot}
use Rattle.pt_model.specs.declared.block.Prot.TheVariants.{Read, ReadWrite}

-- what a permission lets a device do, and whether every format states it
abbrev pub may_read : Prot → Bool
may_read Read = true
may_read ReadWrite = true

abbrev pub may_write : Prot → Bool
may_write Read = false
may_write ReadWrite = true

abbrev pub is_common : Prot → Bool
is_common Read = true
is_common ReadWrite = true

-- what the manual's step finds at an entry, for one of the pages under it
pub data Found : Type 0 where
  nothing : Found
  page : (out : ℕ) → Prot → Found
  table : (address : ℕ) → Found
  alien : Found

-- what the manual's walk finds at an address
pub data Reached : Type 0 where
  nowhere : Reached
  at_byte : (out : ℕ) → Prot → Reached
  strange : Reached

pub record Layout : Type 0 where
  -- the log2 of the bytes of a page, and of the entries of a table
  pub granule : ℕ
  pub index : ℕ
  -- the bits of an input address and of an output address
  pub input : ℕ
  pub output : ℕ
  -- the least number of levels that a space starts with, and the greatest number of levels of a tree
  pub start : ℕ
  pub levels : ℕ
  -- whether a tree may get more levels than it started with
  pub grows : Bool
  -- whether the space is the two halves of canonical addresses
  pub signed : Bool
  -- the block sizes, each as the log2 of its pages
  pub sizes : List ℕ
  -- whether a leaf can state a permission
  pub states : Prot → Bool
  -- the pointer to the table at byte `address`, in a table of `level`
  pub pointer : (level address : ℕ) → ℕ
  -- word `part` of a block of 2 ^ log2 pages onto page `out`, in a table of `level`
  pub leaf : (level log2 out : ℕ) → Prot → (part : ℕ) → ℕ
  -- the manual's step at a word of a table of `level`, for a page under it
  pub step : (level word page : ℕ) → Found
  -- the manual's walk of the words at an address
  pub walk : List ℕ → (address : ℕ) → Reached

-- the space is the input pages below this number; output pages are below the other
abbrev pub input_pages : Layout → ℕ
input_pages f = 2 ^ (f.input - f.granule)

abbrev pub output_pages : Layout → ℕ
output_pages f = 2 ^ (f.output - f.granule)

-- the pages of a block, and the page after its last one
abbrev pub pages : Block → ℕ
pages b = 2 ^ b.log2

abbrev pub end_of : Block → ℕ
end_of b = b.first + pages b

-- the level of the table in which a block of 2 ^ log2 pages stands
abbrev pub level_of_size : Layout → ℕ → ℕ
level_of_size f log2 = log2 / f.index

-- the pages under one entry of a table of a level, and under the whole table
abbrev pub pages_of_entry : Layout → ℕ → ℕ
pages_of_entry f level = 2 ^ (f.index * level)

abbrev pub pages_of_table : Layout → ℕ → ℕ
pages_of_table f level = 2 ^ (f.index * (level + 1))

abbrev pub is_size : Layout → ℕ → Bool
is_size f log2 = list_any (λ k. k == log2) f.sizes

-- a block of 2 ^ log2 pages from input page `first` onto the output pages from `out` is one of the format's
pub record IsLegal (f : Layout) (first log2 out : ℕ) : Type 0 where
  pub a_size : IsTrue (is_size f log2)
  pub first_aligned : first % 2 ^ log2 ≡ 0
  pub out_aligned : out % 2 ^ log2 ≡ 0
  pub in_input : first + 2 ^ log2 ≤ input_pages f
  pub in_output : out + 2 ^ log2 ≤ output_pages f

abbrev pub IsLegalBlock : Layout → Block → Type 0
IsLegalBlock f b = IsLegal f b.first b.log2 b.out

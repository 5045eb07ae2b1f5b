-- Extents, their tilings, and the parts by which they are gone through.
use Rattle.std.specs.Prelude.{◌≡◌, ◌⊎◌, ℕ, ◌+◌, ◌-◌, ◌*◌, ◌/◌, ◌^◌, ◌<◌, ◌≤◌, nat_lt, List, [], ◌∷◌, ◌++◌, filter, min, IsTrue}
use Rattle.pt_model.specs.declared.block.Block.{Block}
use Rattle.pt_model.specs.declared.position.Position.{Position}
use Rattle.pt_model.specs.Layout.{Layout, input_pages, output_pages, pages_of_entry}
use Rattle.pt_model.specs.Tables.{all_needed}
use Rattle.pt_model.specs.Tiling.{block_at, greatest_size, tiling}
use Rattle.pt_tile.specs.declared.extent.Extent.{Extent}
use Rattle.pt_tile.specs.Runs.{run_blocks}

-- an extent of a format has a page, and its input and output pages are those of the format
pub record IsExtent (f : Layout) (x : Extent) : Type 0 where
  pub some : x.first < x.end
  pub in_input : x.end ≤ input_pages f
  pub in_output : x.out + (x.end - x.first) ≤ output_pages f
  pub stated : IsTrue (f.states x.prot)

-- what there is of it before a page, what is left from a page on, and the part under the entry over its first page
abbrev pub up_to : Extent → (page : ℕ) → Extent
up_to x page = record x { end = page }

abbrev pub from : Extent → (page : ℕ) → Extent
from x page = record x { first = page; out = x.out + (page - x.first) }

abbrev pub under_entry : Layout → (level : ℕ) → Extent → Extent
under_entry f level x = up_to x (min ((x.first / pages_of_entry f level + 1) * pages_of_entry f level) x.end)

-- it lies under one entry of a table of a level
abbrev pub LiesUnderEntry : Layout → Extent → (level : ℕ) → Type 0
LiesUnderEntry f x level = x.end ≤ (x.first / pages_of_entry f level + 1) * pages_of_entry f level

-- the block of so many pages at its start, its tiling, and the size of the first block of this
abbrev pub block : (log2 : ℕ) → Extent → Block
block log2 x = block_at x.first log2 x.out x.prot

abbrev pub tiles : Layout → Extent → List Block
tiles f x = tiling f x.prot x.first x.out (x.end - x.first)

abbrev pub first_size : Layout → Extent → ℕ
first_size f x = greatest_size f x.first x.out (x.end - x.first)

-- a block is one of a list
abbrev pub IsOneBlock : List Block → Block → Type 0
IsOneBlock [] b = ⊥
IsOneBlock (c ∷ cs) b = (c ≡ b) ⊎ IsOneBlock cs b

-- the extent that so many equal blocks make up of which this is the first, and these blocks
abbrev pub extent_of : (count : ℕ) → Block → Extent
extent_of count b = record { first = b.first; end = b.first + count * 2 ^ b.log2; out = b.out; prot = b.prot }

abbrev pub blocks_of : (count : ℕ) → Block → List Block
blocks_of count b = run_blocks count b.log2 b.prot b.first b.out

-- the tables over its blocks, at every level of the format, and those of them below a level
abbrev pub tables_of : Layout → Extent → List Position
tables_of f x = all_needed f f.levels (tiles f x)

abbrev pub tables_below : Layout → Extent → (level : ℕ) → List Position
tables_below f x level = filter (λ p. nat_lt p.level level) (tables_of f x)

-- so many blocks of the first one's size come first in its tiling
pub record IsRun (f : Layout) (x : Extent) (count : ℕ) : Type 0 where
  pub some : 1 ≤ count
  pub within : x.first + count * 2 ^ first_size f x ≤ x.end
  pub run : tiles f x ≡ run_blocks count (first_size f x) x.prot x.first x.out ++ tiles f (from x (x.first + count * 2 ^ first_size f x))

-- The page up to which it is gone through first: to the end of a run of blocks of its first one's size, where this one
-- stands in the table of the level, and else to the end of the entry over its first page or of the extent.
abbrev pub IsFirstTo : Layout → (level : ℕ) → Extent → (page : ℕ) → Type 0
IsFirstTo f level x page =
    ((f.index * level ≤ first_size f x) × (count : ℕ) × IsRun f x count × (page ≡ x.first + count * 2 ^ first_size f x))
    ⊎ ((first_size f x < f.index * level) × (page ≡ (under_entry f level x).end))

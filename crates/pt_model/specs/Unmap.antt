-- The taking away of a range of pages by the book machine: why it is refused, in the order of the refusals, and the book
-- after it. It is this project's own.
use Rattle.std.specs.Prelude.{ℕ, ◌+◌, nat_lt, ◌&&◌, not, Bool, List, [], ◌∷◌, Option, Some, None, filter, find, option_map, if◌then◌else◌}
use Rattle.pt_model.specs.declared.block.Block.{Block}
use Rattle.pt_model.specs.Layout.{Layout, pages}
use Rattle.pt_model.specs.Pages.{range_at, is_whole}
use Rattle.pt_model.specs.Book.{Book, is_inside, meets, lies_in, table_lies_in}

pub data CutRefusal : Type 0 where
  Misaligned : CutRefusal
  OutsideLease : CutRefusal
  -- the lowest block that lies partly in the range
  CutsEntry : Block → CutRefusal

-- whether a block has pages both among those from `first` to before `last` and elsewhere
abbrev pub is_cut : (first last : ℕ) → Block → Bool
is_cut first last b = meets first last b && not (lies_in first last b)

-- the lowest block that the pages from `first` to before `last` cut
abbrev pub lowest_cut : Book → (first last : ℕ) → Option Block
lowest_cut book first last = find (is_cut first last) book.blocks

-- why the taking away of `len` bytes from address `va` is refused
abbrev pub unmap_refusal : Layout → Book → (va len : ℕ) → Option CutRefusal
unmap_refusal f book va len =
    if not (is_whole f va && (is_whole f len && nat_lt 0 len)) then Some Misaligned else
    elim (range_at f va len) [
      | None ↦ Some OutsideLease
      | Some range ↦
          if not (is_inside book range.0 (range.0 + range.1)) then Some OutsideLease else
          option_map CutsEntry (lowest_cut book range.0 (range.0 + range.1))
    ]

-- the book without the blocks and the tables that lie in `count` pages from page `first`
abbrev pub unmapped : Layout → Book → (first count : ℕ) → Book
unmapped f book first count = record book {
  blocks = filter (λ b. not (lies_in first (first + count) b)) book.blocks;
  tables = filter (λ p. not (table_lies_in f first (first + count) p)) book.tables;
}

-- the pages of blocks
abbrev pub pages_in : List Block → ℕ
pages_in [] = 0
pages_in (b ∷ bs) = pages b + pages_in bs

-- the number of pages that go with them
abbrev pub pages_gone : Book → (first count : ℕ) → ℕ
pages_gone book first count = pages_in (filter (lies_in first (first + count)) book.blocks)

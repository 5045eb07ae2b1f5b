-- The cutting of a span at a page: why it is refused, and the two books on either side. It is this project's own.
use Rattle.std.specs.Prelude.{ℕ, ◌+◌, ◌-◌, nat_lt, ◌&&◌, not, Bool, ◌++◌, filter, find, max, Option, Some, None, option_map, if◌then◌else◌}
use Rattle.pt_model.specs.declared.block.Block.{Block}
use Rattle.pt_model.specs.Layout.{Layout, end_of}
use Rattle.pt_model.specs.Pages.{page_at, is_whole}
use Rattle.pt_model.specs.Tables.{add_positions}
use Rattle.pt_model.specs.Book.{Book, span_end, lies_in, table_meets}
use Rattle.pt_model.specs.Unmap.{CutRefusal, Misaligned, OutsideLease, CutsEntry}

-- whether a block begins before a page and ends after it
abbrev pub crosses : (page : ℕ) → Block → Bool
crosses page b = nat_lt b.first page && nat_lt page (end_of b)

-- why the span can't be cut at address `at`: both sides have a page, and no block is on both
abbrev pub cut_refusal : Layout → Book → (at : ℕ) → Option CutRefusal
cut_refusal f book at =
    if not (is_whole f at) then Some Misaligned else
    elim (page_at f at) [
      | None ↦ Some OutsideLease
      | Some page ↦
          if not (nat_lt book.first page && nat_lt page (span_end book)) then Some OutsideLease else
          option_map CutsEntry (find (crosses page) book.blocks)
    ]

-- the same blocks, tables and top, by the span of the pages from `first` to before `last`
abbrev pub spanning : Book → (first last : ℕ) → Book
spanning book first last = record book { first = first; count = last - first }

-- the part of a book over the pages from `first` to before `last`: the blocks that lie in them and the tables that meet them
abbrev pub part_of : Layout → Book → (first last : ℕ) → Book
part_of f book first last = record {
  first = first;
  count = last - first;
  blocks = filter (lies_in first last) book.blocks;
  tables = filter (table_meets f first last) book.tables;
  top = book.top;
}

-- one book of two neighbours, the left one first
abbrev pub joined : (left right : Book) → Book
joined left right = record {
  first = left.first;
  count = left.count + right.count;
  blocks = left.blocks ++ right.blocks;
  tables = add_positions left.tables right.tables;
  top = max left.top right.top;
}

-- What a dump and a census tell of a book.
use Rattle.std.specs.Prelude.{ℕ, ◌+◌, List, filter, length, take}
use Rattle.pt_model.specs.declared.block.Block.{Block}
use Rattle.pt_model.specs.declared.reply.Dump.{Dump}
use Rattle.pt_model.specs.declared.reply.Census.{Census}
use Rattle.pt_model.specs.Book.{Book, span_end, lies_in, linked_count}
use Rattle.pt_model.specs.Unmap.{pages_in}

-- the most blocks that a dump lists
abbrev pub dump_limit : ℕ
dump_limit = 1000

-- the blocks of the span
abbrev pub blocks_inside : Book → List Block
blocks_inside book = filter (lies_in book.first (span_end book)) book.blocks

-- how many blocks there are, and the lowest of them
abbrev pub dumped : List Block → Dump
dumped blocks = record { count = length blocks; lowest = take dump_limit blocks }

-- the census of a book of the whole space that started with so many levels
abbrev pub census_of : (levels : ℕ) → Book → Census
census_of levels book = record {
  levels = book.top + 1;
  tables = linked_count levels book;
  blocks = length book.blocks;
  pages = pages_in book.blocks;
}

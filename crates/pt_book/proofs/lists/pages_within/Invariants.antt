use Rattle.std.proofs.Common.{◌≡◌, ◌+◌, ◌*◌, ◌^◌, ◌≤◌, drop}
use Rattle.std.specs.Prelude.{filter}
use Rattle.pt_model.specs.Book as book
use Rattle.pt_model.specs.Unmap.{pages_in}
use Rattle.pt_book.proofs.lists.pages_within.Given as goal

-- the pages so far and those of the blocks that are left are all, and no block has more than fit 64 bits
abbrev pub invariant-loop-block : goal.invariant-loop-block
invariant-loop-block l =
    (l.pages ≤ l.block-index * 2 ^ 64)
    × (l.pages + pages_in (filter (book.lies_in l.first l.last) (drop l.block-index l.blocks))
    ≡ pages_in (filter (book.lies_in l.first l.last) l.blocks))

use Rattle.std.proofs.Common.{◌≡◌, ◌++◌, drop}
use Rattle.std.specs.Prelude.{filter}
use Rattle.pt_model.specs.Book as book
use Rattle.pt_book.proofs.lists.blocks_within.Given as goal

-- those that are taken and those that pass among what is left are all that pass
abbrev pub invariant-loop-block : goal.invariant-loop-block
invariant-loop-block l =
    l.within.items ++ filter (book.lies_in l.first l.last) (drop l.block-index l.blocks)
    ≡ filter (book.lies_in l.first l.last) l.blocks

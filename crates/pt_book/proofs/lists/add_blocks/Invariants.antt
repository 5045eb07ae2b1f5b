use Rattle.std.proofs.Common.{◌≡◌, ◌++◌, ◌≤◌, drop, length}
use Rattle.pt_model.specs.Book as book
use Rattle.pt_book.proofs.lists.add_blocks.Given as goal

-- those put in order, and those that are left put in order, are all
abbrev pub invariant-loop-block : goal.invariant-loop-block
invariant-loop-block l =
    (l.next ≤ length l.new)
    × (l.both.items ++ book.add_blocks (drop l.block-index l.old) (drop l.next l.new) ≡ book.add_blocks l.old l.new)

use Rattle.std.proofs.Common.{◌≡◌, ◌++◌, drop}
use Rattle.std.specs.Prelude.{filter, not}
use Rattle.pt_model.specs.Book as book
use Rattle.pt_book.proofs.lists.blocks_left.Given as goal

-- those that stay and those that pass among what is left are all that pass
abbrev pub invariant-loop-block : goal.invariant-loop-block
invariant-loop-block l =
    l.left.items ++ filter (λ b. not (book.lies_in l.first l.last b)) (drop l.block-index l.blocks)
    ≡ filter (λ b. not (book.lies_in l.first l.last b)) l.blocks

use Rattle.std.proofs.Common.{◌≡◌, ◌++◌}
use Rattle.pt_book.proofs.lists.tiled.Given as goal

-- the blocks so far and those that are left are the tiling
abbrev pub invariant-loop-block : goal.invariant-loop-block
invariant-loop-block g l = l.blocks.items ++ l.block-iterator ≡ l.initial.block-iterator

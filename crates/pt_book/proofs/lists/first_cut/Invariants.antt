use Rattle.std.proofs.Common.{◌≡◌, drop}
use Rattle.std.specs.Prelude.{find}
use Rattle.pt_model.specs.Unmap.{is_cut}
use Rattle.pt_book.proofs.lists.first_cut.Given as goal

-- the first block that is cut is among those that are left
abbrev pub invariant-loop-block : goal.invariant-loop-block
invariant-loop-block l = find (is_cut l.first l.last) (drop l.block-index l.blocks) ≡ find (is_cut l.first l.last) l.blocks

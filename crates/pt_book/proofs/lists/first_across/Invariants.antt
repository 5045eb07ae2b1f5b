use Rattle.std.proofs.Common.{◌≡◌, drop}
use Rattle.std.specs.Prelude.{find}
use Rattle.pt_model.specs.Cuts as cuts
use Rattle.pt_book.proofs.lists.first_across.Given as goal

-- the first block that crosses the page is among those that are left
abbrev pub invariant-loop-block : goal.invariant-loop-block
invariant-loop-block l = find (cuts.crosses l.page) (drop l.block-index l.blocks) ≡ find (cuts.crosses l.page) l.blocks

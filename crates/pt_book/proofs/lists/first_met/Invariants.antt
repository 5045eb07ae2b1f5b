use Rattle.std.proofs.Common.{◌≡◌, drop}
use Rattle.std.specs.Prelude.{find}
use Rattle.pt_model.specs.Book as book
use Rattle.pt_book.proofs.lists.first_met.Given as goal

-- the first block that meets the pages is among those that are left
abbrev pub invariant-loop-block : goal.invariant-loop-block
invariant-loop-block l = find (book.meets l.first l.last) (drop l.block-index l.blocks) ≡ find (book.meets l.first l.last) l.blocks

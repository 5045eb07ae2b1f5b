use Rattle.std.proofs.Common.{◌≡◌, length}
use Rattle.pt_image.specs.Checks.{HasBlock}
use Rattle.pt_image.specs.Drafts.{group_words}
use Rattle.pt_image.proofs.block.copy_words.Given as goal

abbrev pub invariant-loop-part : goal.invariant-loop-part
invariant-loop-part g l = record {
  long : length l.words ≡ length l.fn.words;
  copied : l.words ≡ group_words g.F.Format.layout l.header.frames l.fn.words l.table.frame l.number l.fn.block l.part;
  has : HasBlock g.F.Format.layout l.image l.table.frame l.number l.fn.block l.part;
}

use Rattle.std.proofs.Common.{◌≡◌}
use Rattle.pt_rule.specs.WholeCounts.{added_in_frame, counts_block, counts_pages}
use Rattle.pt_closed.proofs.census.count_table.Given as goal

abbrev pub invariant-loop-number : goal.invariant-loop-number
invariant-loop-number g l = record {
  blocks : l.blocks ≡ added_in_frame g.F.Format.layout l.frames l.words counts_block l.frame l.number;
  pages : l.pages ≡ added_in_frame g.F.Format.layout l.frames l.words (counts_pages g.F.Format.layout) l.frame l.number;
}

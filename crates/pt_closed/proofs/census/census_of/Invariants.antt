use Rattle.std.proofs.Common.{◌≡◌, None}
use Rattle.pt_rule.specs.WholeCounts.{added_in, counts_block, counts_pages, linked_frames_in}
use Rattle.pt_closed.proofs.census.census_of.Given as goal

abbrev pub invariant-loop-frame : goal.invariant-loop-frame
invariant-loop-frame g l = record {
  tables : l.tables ≡ linked_frames_in None l.words l.frame;
  blocks : l.blocks ≡ added_in g.F.Format.layout l.frames None l.words counts_block l.frame;
  pages : l.pages ≡ added_in g.F.Format.layout l.frames None l.words (counts_pages g.F.Format.layout) l.frame;
}

use Rattle.std.proofs.Common.{◌≡◌, ◌*◌, ◌^◌, ◌≤◌}
use Rattle.pt_model.specs.declared.block.Prot.{Prot}
use Rattle.pt_model.specs.Tables.{all_needed}
use Rattle.pt_model.specs.Tiling.{tiling}
use Rattle.pt_tile.specs.Counting.{levels_below}
use Rattle.pt_tile.proofs.tables.count_tables.Given as goal

abbrev pub invariant-loop-level : goal.invariant-loop-level
invariant-loop-level g l = record {
  few : l.needed ≤ l.level * 2 ^ 54;
  number : (prot : Prot) → l.needed
      ≡ levels_below l.level (all_needed g.F.Format.layout l.levels (tiling g.F.Format.layout prot l.span.first l.out l.span.count));
}

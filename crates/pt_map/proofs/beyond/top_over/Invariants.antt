use Rattle.std.proofs.Common.{◌+◌, ◌-◌, ◌<◌, ◌≤◌}
use Rattle.pt_model.specs.Tables.{least_top}
use Rattle.pt_map.proofs.beyond.top_over.Given as goal

abbrev pub invariant-loop-top : goal.invariant-loop-top
invariant-loop-top g l = record {
  from : l.fn.root ≤ l.top;
  below : l.top < g.F.Format.layout.levels;
  to : l.top ≤ least_top g.F.Format.layout (l.fn.root + 1) l.fn.end;
}

abbrev pub decreases-loop-top : goal.decreases-loop-top
decreases-loop-top g l = g.F.Format.layout.levels - l.top

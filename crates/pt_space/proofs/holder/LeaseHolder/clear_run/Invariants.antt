use Rattle.std.proofs.Common.{◌≤◌}
use Rattle.pt_view.specs.Runs.{IsClearedRun}
use Rattle.pt_rule.specs.Meets.{Always}
use Rattle.pt_space.specs.Standing.{StaysIn}
use Rattle.pt_space.proofs.holder.LeaseHolder.clear_run.Given as goal

abbrev pub invariant-loop-i : goal.invariant-loop-i
invariant-loop-i g l = record {
  stays : StaysIn g.F.Format.layout l.initial.self l.self;
  cleared : IsClearedRun g.F.Format.layout Always l.first l.i l.initial.self.view l.cleared l.self.view;
  few : l.cleared ≤ l.i;
}

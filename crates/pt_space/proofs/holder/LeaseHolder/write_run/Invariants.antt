use Rattle.std.proofs.Common.{◌≡◌, ◌+◌, ◌*◌, ◌%◌, ◌^◌}
use Rattle.pt_space.specs.Standing.{StaysIn}
use Rattle.pt_space.proofs.WriteRuns.{WrittenTo}
use Rattle.pt_space.proofs.holder.LeaseHolder.write_run.Given as goal

abbrev pub invariant-loop-i : goal.invariant-loop-i
invariant-loop-i g l = record {
  stays : StaysIn g.F.Format.layout l.initial.self l.self;
  written : WrittenTo g.F.Format.layout l.first l.count l.word l.step l.i l.initial.self.view l.self.view;
  next_is : l.next ≡ (l.word + l.i * l.step) % 2 ^ 64;
}

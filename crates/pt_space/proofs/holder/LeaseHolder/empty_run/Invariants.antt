use Rattle.pt_space.specs.Standing.{StaysIn}
use Rattle.pt_space.proofs.Looks.{Looked}
use Rattle.pt_space.proofs.holder.LeaseHolder.empty_run.Given as goal

abbrev pub invariant-loop-i : goal.invariant-loop-i
invariant-loop-i g l = record {
  stays : StaysIn g.F.Format.layout l.initial.self l.self;
  looked : Looked g.F.Format.layout l.first l.i l.initial.self.view l.self.view;
}

use Rattle.std.proofs.Common.{◌≡◌, ℕ, List, length}
use Rattle.pt_view.specs.Calls.{IsFreed}
use Rattle.pt_rule.specs.Meets.{Always}
use Rattle.pt_space.specs.Standing.{StaysIn}
use Rattle.pt_space.proofs.holder.LeaseHolder.release.Given as goal

abbrev pub invariant-loop : goal.invariant-loop
invariant-loop g l = record {
  frames : List ℕ;
  count : length frames ≡ l.counter;
  freed : IsFreed Always frames l.initial.self.view l.self.view;
  stays : StaysIn g.F.Format.layout l.initial.self l.self;
}

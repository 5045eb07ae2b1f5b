use Rattle.std.proofs.Common.{◌≤◌}
use Rattle.pt_bench.specs.Spans.{ComesBack}
use Rattle.pt_bench.proofs.threads.make_rounds.Given as goal

-- calls may be made, and no more were counted than were tried
abbrev pub invariant-loop : goal.invariant-loop
invariant-loop g l = ComesBack g.F.Format.layout g.H.Holder.space g.H.Holder.view l.initial.holder l.holder × (l.whole ≤ l.counter)

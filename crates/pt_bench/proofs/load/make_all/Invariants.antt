use Rattle.std.proofs.Common.{◌≤◌}
use Rattle.pt_bench.specs.Spans.{ComesBack}
use Rattle.pt_bench.proofs.load.make_all.Given as goal

-- calls may be made, and no more were counted than were tried
abbrev pub invariant-loop-number : goal.invariant-loop-number
invariant-loop-number g l = ComesBack g.F.Format.layout g.H.Holder.space g.H.Holder.view l.initial.holder l.holder × (l.made ≤ l.number)

use Rattle.std.proofs.Common.{◌≡◌}
use Rattle.space_cases.proofs.pair.Trio.run.Given as goal

abbrev pub invariant-loop : goal.invariant-loop
invariant-loop g l = l.self ≡ l.fn.self

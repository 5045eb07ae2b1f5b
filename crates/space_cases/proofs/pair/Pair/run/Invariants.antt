use Rattle.std.proofs.Common.{◌≡◌}
use Rattle.space_cases.proofs.pair.Pair.run.Given as goal

abbrev pub invariant-loop-place : goal.invariant-loop-place
invariant-loop-place g l = l.self ≡ l.fn.self

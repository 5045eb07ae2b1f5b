use Rattle.space_cases.specs.Handing.{IsHandedBack}
use Rattle.space_cases.proofs.loads.map_pages.Given as goal

-- the lease is at rest, with the span that it had
abbrev pub invariant-loop-number : goal.invariant-loop-number
invariant-loop-number g l = IsHandedBack g.F.Format.layout l.fn.lease l.lease

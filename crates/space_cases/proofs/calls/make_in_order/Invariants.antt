use Rattle.space_cases.specs.Handing.{IsHandedBack}
use Rattle.space_cases.proofs.calls.make_in_order.Given as goal

-- both are at rest, with the spans that they had
abbrev pub invariant-loop-place : goal.invariant-loop-place
invariant-loop-place g l = IsHandedBack g.F.Format.layout l.fn.left l.left × IsHandedBack g.F.Format.layout l.fn.right l.right

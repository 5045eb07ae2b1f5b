use Rattle.pt_made.proofs.Drawing.{IsDrawing}
use Rattle.pt_made.proofs.making.push_branch.Given as goal

abbrev pub invariant-loop-drawn : goal.invariant-loop-drawn
invariant-loop-drawn g l =
    IsDrawing g.F.Format.layout l.branch l.count l._drawn l.initial.commands.items l.commands.items l.initial.draws.state l.draws.state

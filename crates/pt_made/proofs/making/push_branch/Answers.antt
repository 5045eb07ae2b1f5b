use Rattle.std.proofs.Common.{sym, arith}
use Rattle.pt_made.proofs.Drawing.{drawing_begins, drawing_goes_on, drawing_ends}
use Rattle.pt_made.proofs.making.push_branch.Goals as goal

pub loop-drawn-init : goal.loop-drawn-init
loop-drawn-init g c = drawing_begins g.F.Format.layout c.args.branch c.per_branch-count.result c.args.commands.now.items c.args.draws.now.state

pub loop-drawn-preserved : goal.loop-drawn-preserved
loop-drawn-preserved g c =
    let l = c.loop-drawn in
    drawing_goes_on g.F.Format.layout c.args.branch c.per_branch-count.result l._drawn c.args.commands.now.items l.commands.items c.push_command.new.commands.items
    c.args.draws.now.state l.draws.state c.draw_command-what.new.draws.state c.draw_command-what.result (omega arith)
    l.invariant c.draw_command-what.ensures.command c.draw_command-what.ensures.state c.in_ok-push_command.ensures.commands

pub returns-clause-commands : goal.returns-clause-commands
returns-clause-commands g c =
    let l = c.loop-drawn in
    (drawing_ends g.F.Format.layout c.args.branch _ c.per_branch-count.result l._drawn c.args.commands.now.items l.commands.items c.args.draws.now.state l.draws.state
    (let e = c.per_branch-count.ensures.number in sym e) (omega arith) l.invariant).0

pub returns-clause-state : goal.returns-clause-state
returns-clause-state g c =
    let l = c.loop-drawn in
    (drawing_ends g.F.Format.layout c.args.branch _ c.per_branch-count.result l._drawn c.args.commands.now.items l.commands.items c.args.draws.now.state l.draws.state
    (let e = c.per_branch-count.ensures.number in sym e) (omega arith) l.invariant).1

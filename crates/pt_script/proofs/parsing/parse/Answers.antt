use Rattle.std.proofs.Common.{sym}
use Rattle.pt_script.specs.Progress.{state_of}
use Rattle.pt_script.specs.Draft.{lines_at}
use Rattle.pt_script.proofs.ParseLemmas.{read_more, read_is}
use Rattle.pt_script.proofs.parsing.parse.Goals as goal

pub lines-preserved : goal.lines-preserved
lines-preserved c =
    let d = c.lines.draft in
    let p = d.progress in
    let e = c.in_ok-line.ensures in
    let text = c.args.bytes.now in
    let more = c.in_ok-line.more.now in
    let read = read_more text (lines_at p.stage d.commands.items d.asks.items) c.lines.rest.now more (state_of p.stage p.forks.items p.commands p.dumps) c.in_ok-line.line
    c.lines.invariant.read e.cut e.stated e.stands e.within in
    record { read = read_is text _ _ more _ _ read (sym c.in_ok-add.ensures.lines) (sym c.in_ok-add.ensures.state); draft = c.in_ok-add.ensures.draft }

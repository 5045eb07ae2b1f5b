use Rattle.pt_script.proofs.PrintLemmas.{printed}
use Rattle.pt_script.proofs.printing.print.Goals as goal

pub returns : goal.returns
returns c =
    let s = c.args.script.now in
    printed s.format s.levels s.frames s.hold s.body c.commands.result.now s.tail c.asks.result.now c.new-out.result.items c.push_header.new.out.items c.push_body.new.out.items
    c.push_line.new.out.items c.push_tail.new.out.items c.push_line-2.new.out.items c.new-out.ensures.items c.in_ok-push_header.ensures c.commands.ensures c.in_ok-push_body.ensures
    c.in_ok-push_line.ensures c.asks.ensures c.in_ok-push_tail.ensures c.in_ok-push_line-2.ensures

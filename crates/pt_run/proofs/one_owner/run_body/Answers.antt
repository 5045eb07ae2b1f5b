use Rattle.std.proofs.Common.{List, [], sym, subst, false, arith}
use Rattle.pt_model.specs.declared.command.Command.{Command}
use Rattle.pt_script.proofs.LegalLemmas.{legal_script}
use Rattle.pt_forks.specs.Running.{IsOneBody}
use Rattle.pt_narrow.specs.Standing.{HasRunOver}
use Rattle.pt_run.proofs.RunFacts.{ends_of_one}
use Rattle.pt_run.proofs.one_owner.run_body.Goals as goal

-- a script's body closes its forks, and nests no more than sixteen
pub run_over-requires-clause-body : goal.run_over-requires-clause-body
run_over-requires-clause-body g c =
    subst (λ (cs : List Command). IsOneBody cs []) (sym c.commands.ensures)
    (record { inside = false; room = 16; is_body = (legal_script c.args.script.now).is_body; few = omega arith })

pub returns : goal.returns
returns g c =
    let f = g.F.Format.layout in
    let s = c.args.script.now in
    let made = c.in_ok-plain.plain in
    let ended = c.in_ok-plain-2.plain in
    let replies = c.in_ok-plain-2.replies.items in
    let ran = subst (λ (cs : List Command). HasRunOver f made ended cs replies) c.commands.ensures c.in_ok-plain-2.ensures in
    ends_of_one f s.frames s.levels s.hold made c.in_ok-plain.ensures.opened ended s.body replies ran c.close-words.result.items c.close-words.ensures

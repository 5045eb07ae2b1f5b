use Rattle.std.proofs.lemmas.Result.{IfOk-weaker}
use Rattle.pt_beside.proofs.Ended.{is_run}
use Rattle.pt_beside.proofs.run.run_parts.Goals as goal

pub returns-clause-run : goal.returns-clause-run
returns-clause-run g c =
    IfOk-weaker c.run_commands.result.1 _ _
    (λ v h. is_run g.P.Part.told (g.P.Part.place c.args.part) (g.P.Part.place c.run_commands.result.0) c.args.commands.now v.items c.printed_uncovered.ensures c.requires.body.rises h)
    c.run_commands.ensures.run

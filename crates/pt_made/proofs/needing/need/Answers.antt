use Rattle.std.proofs.Common.{ap, length, arith}
use Rattle.pt_made.proofs.FewLines.{few_in_script}
use Rattle.pt_made.proofs.needing.need.Goals as goal

pub need_of-requires-clause-few : goal.need_of-requires-clause-few
need_of-requires-clause-few c =
    omega (arith, few_in_script c.args.script.now (c.scripts_are_legal.ensures c.args.script.now), ap length c.commands.ensures)

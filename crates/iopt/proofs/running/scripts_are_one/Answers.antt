use Rattle.pt_script.proofs.PrintLemmas.{one_script}
use Rattle.iopt.proofs.running.scripts_are_one.Goals as goal

pub returns : goal.returns
returns c = one_script c.one_number.ensures.decimal c.one_number.ensures.hexadecimal

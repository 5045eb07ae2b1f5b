use Rattle.pt_script.proofs.PrintLemmas.{one_script}
use Rattle.pt_script.proofs.again.one_script.Goals as goal

pub returns : goal.returns
returns c = one_script c.one_number.ensures.decimal c.one_number.ensures.hexadecimal

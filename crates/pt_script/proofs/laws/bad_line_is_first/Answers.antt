use Rattle.pt_script.proofs.FirstLemmas.{is_first}
use Rattle.pt_script.proofs.laws.bad_line_is_first.Goals as goal

pub returns : goal.returns
returns c = is_first c.one_number.ensures.decimal c.one_number.ensures.hexadecimal

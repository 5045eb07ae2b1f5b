use Rattle.pt_script.proofs.Refused.{bad_is_none}
use Rattle.pt_script.proofs.laws.bad_is_no_script.Goals as goal

pub returns : goal.returns
returns c = bad_is_none c.one_number.ensures.decimal c.one_number.ensures.hexadecimal

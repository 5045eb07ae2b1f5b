use Rattle.pt_script.proofs.OneRefusal.{one_refusal_only}
use Rattle.pt_script.proofs.laws.one_refusal.Goals as goal

pub returns : goal.returns
returns c = one_refusal_only c.one_number.ensures.decimal c.one_number.ensures.hexadecimal

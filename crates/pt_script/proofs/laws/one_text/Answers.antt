use Rattle.pt_script.proofs.OneText.{script_injective}
use Rattle.pt_script.proofs.laws.one_text.Goals as goal

pub returns : goal.returns
returns c = script_injective c.one_number.ensures.decimal c.one_number.ensures.hexadecimal

use Rattle.pt_script.proofs.LegalLemmas.{legal_script}
use Rattle.pt_script.proofs.again.scripts_are_legal.Goals as goal

pub returns : goal.returns
returns c = legal_script

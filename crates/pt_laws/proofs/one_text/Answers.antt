use Rattle.pt_laws.proofs.Calm.{one_text}
use Rattle.pt_laws.proofs.one_text.Goals as goal

pub returns : goal.returns
returns c = one_text

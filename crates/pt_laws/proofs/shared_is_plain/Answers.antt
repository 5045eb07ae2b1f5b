use Rattle.pt_laws.proofs.Calm.{shared_is_plain}
use Rattle.pt_laws.proofs.shared_is_plain.Goals as goal

pub returns : goal.returns
returns c = shared_is_plain

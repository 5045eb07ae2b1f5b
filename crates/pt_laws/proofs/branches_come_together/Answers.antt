use Rattle.pt_laws.proofs.Halves.{branches_come_together}
use Rattle.pt_laws.proofs.branches_come_together.Goals as goal

pub returns : goal.returns
returns c = branches_come_together

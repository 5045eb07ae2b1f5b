use Rattle.pt_script.proofs.BranchLemmas.{come_apart}
use Rattle.pt_script.proofs.fork.bodies_come_apart.Goals as goal

pub returns : goal.returns
returns c = come_apart

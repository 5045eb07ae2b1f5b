use Rattle.pt_laws.proofs.Covering.{forks_cover}
use Rattle.pt_laws.proofs.forks_cover.Goals as goal

pub returns : goal.returns
returns c = forks_cover

use Rattle.pt_laws.proofs.Whole.{lack_uncovered}
use Rattle.pt_laws.proofs.lack_uncovered.Goals as goal

pub returns : goal.returns
returns c = lack_uncovered

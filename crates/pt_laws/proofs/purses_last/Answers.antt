use Rattle.pt_laws.proofs.Purses.{purses_last}
use Rattle.pt_laws.proofs.purses_last.Goals as goal

pub returns : goal.returns
returns c = purses_last

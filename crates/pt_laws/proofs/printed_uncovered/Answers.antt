use Rattle.pt_laws.proofs.Whole.{printed_uncovered}
use Rattle.pt_laws.proofs.printed_uncovered.Goals as goal

pub returns : goal.returns
returns c = printed_uncovered

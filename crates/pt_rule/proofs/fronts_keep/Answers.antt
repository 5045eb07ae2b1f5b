use Rattle.pt_rule.proofs.Laws.{fronts_keep}
use Rattle.pt_rule.proofs.fronts_keep.Goals as goal

pub returns : goal.returns
returns c = fronts_keep

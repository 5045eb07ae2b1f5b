use Rattle.pt_rule.proofs.Laws.{joins_keep}
use Rattle.pt_rule.proofs.joins_keep.Goals as goal

pub returns : goal.returns
returns c = joins_keep

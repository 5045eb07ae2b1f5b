use Rattle.pt_rule.proofs.Laws.{splits_keep}
use Rattle.pt_rule.proofs.splits_keep.Goals as goal

pub returns : goal.returns
returns c = splits_keep

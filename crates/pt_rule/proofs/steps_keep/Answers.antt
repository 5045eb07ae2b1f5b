use Rattle.pt_rule.proofs.Laws.{steps_keep}
use Rattle.pt_rule.proofs.steps_keep.Goals as goal

pub returns : goal.returns
returns c = steps_keep

use Rattle.pt_rule.proofs.Laws.{whole_is_counted}
use Rattle.pt_rule.proofs.whole_is_counted.Goals as goal

pub returns : goal.returns
returns c = whole_is_counted

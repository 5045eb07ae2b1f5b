use Rattle.pt_rule.proofs.Laws.{whole_is_alone}
use Rattle.pt_rule.proofs.whole_is_alone.Goals as goal

pub returns : goal.returns
returns c = whole_is_alone

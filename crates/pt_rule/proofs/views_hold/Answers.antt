use Rattle.pt_rule.proofs.Laws.{views_hold}
use Rattle.pt_rule.proofs.views_hold.Goals as goal

pub returns : goal.returns
returns c = views_hold

use Rattle.pt_rule.proofs.Laws.{walk_is_union}
use Rattle.pt_rule.proofs.walk_is_union.Goals as goal

pub returns : goal.returns
returns c = walk_is_union

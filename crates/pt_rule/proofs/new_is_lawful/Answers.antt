use Rattle.pt_rule.proofs.Laws.{new_is_lawful}
use Rattle.pt_rule.proofs.new_is_lawful.Goals as goal

pub returns : goal.returns
returns c = new_is_lawful

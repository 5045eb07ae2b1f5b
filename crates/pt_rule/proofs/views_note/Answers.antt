use Rattle.pt_rule.proofs.Laws.{views_note}
use Rattle.pt_rule.proofs.views_note.Goals as goal

pub returns : goal.returns
returns c = views_note

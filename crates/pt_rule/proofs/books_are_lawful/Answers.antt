use Rattle.pt_rule.proofs.Laws.{books_are_lawful}
use Rattle.pt_rule.proofs.books_are_lawful.Goals as goal

pub returns : goal.returns
returns c = books_are_lawful

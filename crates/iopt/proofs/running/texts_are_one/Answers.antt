use Rattle.iopt.proofs.PutFacts.{one_text}
use Rattle.iopt.proofs.running.texts_are_one.Goals as goal

pub returns : goal.returns
returns c = one_text c.shared_run_is_plain.ensures

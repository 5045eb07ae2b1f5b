use Rattle.pt_script.proofs.WordLemmas.{no_format}
use Rattle.pt_script.proofs.reading.format_in.Goals as goal

pub returns-in_default-clause-none : goal.returns-in_default-clause-none
returns-in_default-clause-none c = λ l h k. no_format c.args.rest.now c.split_word.result.0.now c.split_word.ensures.first c.in_default.ensures.none l k

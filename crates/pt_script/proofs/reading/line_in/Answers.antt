use Rattle.pt_script.proofs.WordLemmas.{some_spelled, none_unspelled}
use Rattle.pt_script.proofs.reading.line_in.Goals as goal

pub returns-clause-found : goal.returns-clause-found
returns-clause-found c = some_spelled c.args.raw.now c.args.keyword c.line_of_words.result c.line_of_words.ensures.found c.line_of_words.ensures.form

pub returns-clause-none : goal.returns-clause-none
returns-clause-none c = none_unspelled c.args.raw.now c.args.keyword c.line_of_words.result c.line_of_words.ensures.none

use Rattle.pt_rule.proofs.Laws.{census_is_read, pieces_are_added, tags_are_counted}
use Rattle.pt_rule.proofs.whole_adds_up.Goals as goal

pub returns-clause-tags : goal.returns-clause-tags
returns-clause-tags c = tags_are_counted

pub returns-clause-pieces : goal.returns-clause-pieces
returns-clause-pieces c = pieces_are_added

pub returns-clause-census : goal.returns-clause-census
returns-clause-census c = census_is_read

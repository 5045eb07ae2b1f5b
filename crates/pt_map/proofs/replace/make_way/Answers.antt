use Rattle.pt_map.proofs.WayMade.{none_unlinked}
use Rattle.pt_map.proofs.replace.make_way.Goals as goal

pub returns-else-tables-clause-unlinks : goal.returns-else-tables-clause-unlinks
returns-else-tables-clause-unlinks g c = none_unlinked _ (c.requires.none c.if-tables.false)

use Rattle.space_cases.proofs.OwnTables.{may_unlink, unlinked}
use Rattle.space_cases.proofs.owned.unlink.Goals as goal

pub unlink-requires : goal.unlink-requires
unlink-requires g c = may_unlink _ c.args._level c.args.number c.args.lease.now.view c.requires.rooted c.requires.linked

pub returns-clause-rooted : goal.returns-clause-rooted
returns-clause-rooted g c = unlinked _ c.args._level c.args.number _ c.args.lease.now.view c.unlink.new.self.view c.requires.rooted c.unlink.ensures.unlinked

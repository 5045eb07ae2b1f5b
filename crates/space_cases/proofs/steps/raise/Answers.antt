use Rattle.space_cases.proofs.Tries.{raised}
use Rattle.space_cases.proofs.steps.raise.Goals as goal

pub returns-clause-tried : goal.returns-clause-tried
returns-clause-tried g c = raised _ c.args.lease.now.view c.grow.new.self.view c.args._level _ _ c.grow.result c.requires c.grow.ensures.grown

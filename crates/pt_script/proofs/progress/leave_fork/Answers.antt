use Rattle.pt_script.proofs.ForkLemmas.{left}
use Rattle.pt_script.proofs.progress.leave_fork.Goals as goal

pub returns-clause-place : goal.returns-clause-place
returns-clause-place c = (left c.args.forks.now.items c.pop.new.self.items c.pop.result c.requires.stands c.pop.ensures.items c.pop.ensures.variant.1).0

pub returns-clause-owed : goal.returns-clause-owed
returns-clause-owed c = (left c.args.forks.now.items c.pop.new.self.items c.pop.result c.requires.stands c.pop.ensures.items c.pop.ensures.variant.1).1

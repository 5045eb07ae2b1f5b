use Rattle.pt_script.proofs.ForkLemmas.{opened}
use Rattle.pt_script.proofs.progress.open_fork.Goals as goal

pub returns-clause-place : goal.returns-clause-place
returns-clause-place c = (opened c.args.forks.now.items c.push.new.self.items c.push.ensures.items).0

pub returns-clause-owed : goal.returns-clause-owed
returns-clause-owed c = (opened c.args.forks.now.items c.push.new.self.items c.push.ensures.items).1

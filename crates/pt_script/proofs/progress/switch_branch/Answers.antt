use Rattle.std.proofs.Common.{arith, ap, length, length-take, ◌-◌}
use Rattle.pt_script.proofs.ForkLemmas.{switched}
use Rattle.pt_script.proofs.progress.switch_branch.Goals as goal

pub returns-clause-place : goal.returns-clause-place
returns-clause-place c = (switched c.args.forks.now.items c.pop.new.self.items c.push.new.self.items c.pop.result c.requires.stands c.pop.ensures.items c.pop.ensures.variant.1 c.push.ensures.items).0

pub returns-clause-owed : goal.returns-clause-owed
returns-clause-owed c = (switched c.args.forks.now.items c.pop.new.self.items c.push.new.self.items c.pop.result c.requires.stands c.pop.ensures.items c.pop.ensures.variant.1 c.push.ensures.items).1

pub push-requires : goal.push-requires
push-requires c = (omega arith, omega (arith, c.requires.depth, ap length c.pop.ensures.rest, length-take (length c.args.forks.now.items - 1) c.args.forks.now.items))

use Rattle.std.proofs.Common.{ℕ, ◌<◌, subst}
use Rattle.space_cases.proofs.Tries.{linked, may_link}
use Rattle.space_cases.proofs.steps.link.Goals as goal

pub install-requires : goal.install-requires
install-requires g c =
    may_link _ c.args.lease.now.view c.args._level c.requires.high c.requires.ready c.requires.near (subst (λ (n : ℕ). 0 < n) c.range-span.ensures.count c.range-span.ensures.some)

pub returns-clause-tried : goal.returns-clause-tried
returns-clause-tried g c = linked _ c.args.lease.now.view c.install.new.self.view c.args._level _ c.install.result c.requires.ready c.install.ensures.installed

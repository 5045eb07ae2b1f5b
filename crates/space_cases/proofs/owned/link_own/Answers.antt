use Rattle.std.proofs.Common.{ℕ, ◌+◌, ◌≤◌, subst}
use Rattle.pt_model.specs.Layout.{input_pages}
use Rattle.space_cases.proofs.OwnTables.{linked_own, may_link_own, own_position, tried_own}
use Rattle.space_cases.proofs.owned.link_own.Goals as goal

pub place-requires-clause-legal : goal.place-requires-clause-legal
place-requires-clause-legal g c =
    own_position _ c.args.level c.args.number c.args.base c.args.lease.now.view c.requires.own c.requires.rooted.root.legal c.requires.base
    (subst (λ (n : ℕ). n ≤ input_pages g.F.Format.layout) (λ i. c.range-span.ensures.first i + c.range-span.ensures.count i) c.range-span.ensures.within)

pub install-requires : goal.install-requires
install-requires g c =
    may_link_own _ c.args.level c.args.number c.args.base _ c.args.lease.now.view c.place.new.self.view c.requires.rooted c.requires.own c.requires.base c.place.ensures.placed

pub returns-clause-tried : goal.returns-clause-tried
returns-clause-tried g c =
    tried_own _ c.args.level c.args.number c.args.base _ _ c.args.lease.now.view c.place.new.self.view c.install.new.self.view c.install.result
    c.requires.rooted c.requires.own c.place.ensures.placed c.install.ensures.installed

pub returns-clause-linked : goal.returns-clause-linked
returns-clause-linked g c =
    linked_own _ c.args.level c.args.number c.args.base _ _ c.args.lease.now.view c.place.new.self.view c.install.new.self.view c.install.result
    c.requires.rooted c.requires.own c.requires.none c.place.ensures.placed c.install.ensures.installed

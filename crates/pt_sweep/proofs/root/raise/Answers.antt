use Rattle.pt_view.proofs.Stays.{stays_here, stays_on}
use Rattle.pt_sweep.proofs.RootRaised.{may_raise, raises_all, raises_none, raises_on}
use Rattle.pt_sweep.proofs.root.raise.Goals as goal

pub loop-level-init : goal.loop-level-init
loop-level-init g c = record { stays = stays_here; raises = raises_none c.args.top c.requires.at }

pub raise_one-level-requires : goal.raise_one-level-requires
raise_one-level-requires g c = may_raise c.loop-level.invariant.raises c.loop-level-test.true c.requires

pub loop-level-preserved : goal.loop-level-preserved
loop-level-preserved g c =
    let i = c.loop-level.invariant in
    let e = c.raise_one-level.ensures in
    record { stays = stays_on i.stays e.stays; raises = raises_on i.raises c.loop-level-test.true i.stays.still_alone e.raises }

pub returns-clause-stays : goal.returns-clause-stays
returns-clause-stays g c = c.loop-level.invariant.stays

pub returns-clause-raises : goal.returns-clause-raises
returns-clause-raises g c = raises_all c.loop-level-test.false c.loop-level.invariant.raises

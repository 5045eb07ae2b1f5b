use Rattle.std.proofs.Common.{◌∙◌, arith, refl}
use Rattle.pt_format.specs.Laws.{IsLayout}
use Rattle.pt_sweep.proofs.RootRaised.{left_after, outgrown, raised, ready_after}
use Rattle.pt_sweep.proofs.root.raise_one.Goals as goal

pub unplace-requires : goal.unplace-requires
unplace-requires g c = let ready = (ready_after c.requires c.place.ensures.placed c.in-Met.ensures.grown) in (_, ready, refl)

pub root-requires : goal.root-requires
root-requires g c = c.unplace.ensures.unplaced.path ∙ left_after c.requires c.place.ensures.placed c.in-Met.ensures.grown

pub returns-in-Yes-clause-raises : goal.returns-in-Yes-clause-raises
returns-in-Yes-clause-raises g c = raised c.requires c.place.ensures.placed c.in-Yes.ensures.grown

pub returns-in-Met-clause-raises : goal.returns-in-Met-clause-raises
returns-in-Met-clause-raises g c =
    let good : IsLayout g.F.Format.layout = g.met.F.Format.lawful_layout in
    outgrown c.requires c.place.ensures.placed (omega (arith, good.index_is, good.granule_low)) c.place.ensures.stays.still_alone
    c.in-Met.ensures.grown c.unplace.ensures.unplaced c.root.ensures.rooted

use Rattle.std.proofs.Common.{◌≡◌, [], ◌∷◌, ◌++◌, length, length-append, refl, ap, subst, arith}
use Rattle.pt_view.proofs.Freed.{freed_none, freed_on, released}
use Rattle.pt_view.proofs.Stays.{stays_here, stays_on}
use Rattle.pt_space.specs.Standing.{Standing}
use Rattle.pt_space.proofs.holder.LeaseHolder.release.Given.{Over}
use Rattle.pt_space.proofs.holder.LeaseHolder.release.Goals as goal
use Rattle.pt_space.proofs.holder.LeaseHolder.release.Goals.{After-self}

-- the loop goes over as many frames as the purse has
all_held : (g : Over) (c : After-self g) → length c.args.self.now.view.purse ≡ c.self.inside.held
all_held g c = subst (λ (x : Standing). length x.view.purse ≡ c.self.inside.held) c.self.view_is c.self.invariant.3.held

pub loop-init : goal.loop-init
loop-init g c = record { frames = []; count = refl; freed = freed_none c.args.self.now.view; stays = stays_here }

pub free_first-requires : goal.free_first-requires
free_first-requires g c =
    let inv = c.loop.invariant in
    let count = inv.count in
    let all = all_held g (goal.at.free_first-requires g c).After-self in
    let purse = ap length inv.freed.purse in
    let parts = length-append inv.frames c.loop.self.view.purse in
    omega arith

pub loop-preserved : goal.loop-preserved
loop-preserved g c =
    let inv = c.loop.invariant in
    let count = inv.count in
    let one = c.free_first.ensures.freed in
    let longer = length-append inv.frames (one.0 ∷ []) in
    record {
      frames = inv.frames ++ one.0 ∷ [];
      count = omega arith;
      freed = freed_on inv.freed one.1;
      stays = stays_on inv.stays c.free_first.ensures.stays;
    }

pub returns-clause-stays : goal.returns-clause-stays
returns-clause-stays g c = c.loop.invariant.stays

pub returns-clause-released : goal.returns-clause-released
returns-clause-released g c =
    let inv = c.loop.invariant in
    let count = inv.count in
    let all = all_held g (goal.at.returns-clause-released g c).After-self in
    released inv.freed (omega arith)

use Rattle.std.proofs.Common.{◌≡◌, [], ◌∷◌, ◌++◌, length, length-append, refl, ap, ◌∙◌, subst, arith}
use Rattle.pt_view.proofs.Freed.{freed_none, freed_on, released}
use Rattle.pt_plain.specs.Owner.{Owned}
use Rattle.pt_plain.proofs.Laws.{Laws}
use Rattle.pt_plain.proofs.TagCalls as tags
use Rattle.pt_plain.proofs.holder.PlainHolder.release.Given.{Over}
use Rattle.pt_plain.proofs.holder.PlainHolder.release.Goals as goal
use Rattle.pt_plain.proofs.holder.PlainHolder.release.Goals.{After-self}

laws : (g : Over) → Laws g.F.Format.layout
laws g = let law = g.met.F.Format in record { layout = law.lawful_layout; differ = law.words_differ; agree = law.steps_agree }

-- the loop goes over as many frames as the purse has
held_is : (g : Over) (c : After-self g) → length c.args.self.now.view.purse ≡ c.self.inside.held
held_is g c = subst (λ (x : Owned). length x.view.purse ≡ c.self.inside.held) c.self.view_is (tags.held_is (laws g) c.self.invariant)

pub loop-init : goal.loop-init
loop-init g c = record { frames = []; count = refl; freed = freed_none c.args.self.now.view; aside = refl }

pub free_first-requires : goal.free_first-requires
free_first-requires g c =
    let inv = c.loop.invariant in
    let count = inv.count in
    let all = held_is g (goal.at.free_first-requires g c).After-self in
    let purse = ap length inv.freed.purse in
    let parts = length-append inv.frames c.loop.self.view.purse in
    omega arith

pub loop-preserved : goal.loop-preserved
loop-preserved g c =
    let inv = c.loop.invariant in
    let count = inv.count in
    let one = c.free_first.ensures.freed in
    let longer = length-append inv.frames (one.0 ∷ []) in
    record {
      frames = inv.frames ++ one.0 ∷ [];
      count = omega arith;
      freed = freed_on inv.freed one.1;
      aside = c.free_first.ensures.aside ∙ inv.aside;
    }

pub returns-clause-stays : goal.returns-clause-stays
returns-clause-stays g c = record { same_space = refl; same_aside = c.loop.invariant.aside; still_alone = λ a. a }

pub returns-clause-released : goal.returns-clause-released
returns-clause-released g c =
    let inv = c.loop.invariant in
    let count = inv.count in
    let all = held_is g (goal.at.returns-clause-released g c).After-self in
    released inv.freed (omega arith)

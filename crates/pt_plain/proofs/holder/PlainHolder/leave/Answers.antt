use Rattle.std.proofs.Common.{◌<◌, length, refl, sym, subst}
use Rattle.pt_plain.specs.Owner.{Owned}
use Rattle.pt_plain.proofs.Owners.{kept_aside, seen}
use Rattle.pt_plain.proofs.PathCalls.{leave}
use Rattle.pt_plain.proofs.holder.PlainHolder.leave.Goals as goal

pub invariant_of-self : goal.invariant_of-self
invariant_of-self g c = (leave c.self.invariant (subst (λ (x : Owned). 0 < length x.view.path) (sym c.self.view_is) c.requires)).owner

pub returns-clause-stays : goal.returns-clause-stays
returns-clause-stays g c =
    let call = leave c.self.invariant (subst (λ (x : Owned). 0 < length x.view.path) (sym c.self.view_is) c.requires) in
    record { same_space = refl; same_aside = kept_aside call c.self.view_is; still_alone = λ a. a }

pub returns-clause-left : goal.returns-clause-left
returns-clause-left g c =
    let call = leave c.self.invariant (subst (λ (x : Owned). 0 < length x.view.path) (sym c.self.view_is) c.requires) in
    seen call c.self.view_is

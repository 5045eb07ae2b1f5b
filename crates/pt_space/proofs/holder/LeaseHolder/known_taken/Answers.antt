use Rattle.std.proofs.Common.{subst}
use Rattle.pt_view.specs.Calls.{FillsSpace, HasEveryFrame}
use Rattle.pt_rule.specs.Meets.{IsWhole}
use Rattle.pt_space.specs.Standing.{Standing, none_aside}
use Rattle.pt_space.proofs.Takes.{all_met}
use Rattle.pt_space.proofs.holder.LeaseHolder.known_taken.Goals as goal

pub returns-clause-all : goal.returns-clause-all
returns-clause-all g c =
    subst (λ (x : Standing). IsWhole g.F.Format.layout x.view → HasEveryFrame x.view → FillsSpace x.view none_aside) c.self.view_is (all_met c.self.invariant.3)

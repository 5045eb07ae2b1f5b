use Rattle.std.proofs.Common.{◌∙◌, ap, subst}
use Rattle.pt_view.specs.declared.holder.Won.{Won}
use Rattle.space_cases.specs.Racing.{IsTold, depth_after}
use Rattle.space_cases.proofs.Tries.{idle_above}
use Rattle.space_cases.proofs.steps.rest_at_root.Goals as goal

pub returns-in-Yes-clause-idle : goal.returns-in-Yes-clause-idle
returns-in-Yes-clause-idle g c =
    let v = c.args.lease.now.view in
    idle_above v c.leave.new.self.view c.requires.blank (subst (λ (won : Won). IsTold won v) c.in-Yes.is c.requires.told)
    (c.requires.depth_is ∙ ap depth_after c.in-Yes.is) c.leave.ensures.left

use Rattle.std.proofs.Common.{◌≡◌, ℕ, ◌<◌, ◌∙◌, ap, length, sym, subst, arith}
use Rattle.pt_view.specs.declared.view.View.{View}
use Rattle.space_cases.proofs.Tries.{blank_above, idle_above, one_above}
use Rattle.space_cases.proofs.steps.rest_below.Goals as goal

pub leave-requires-2 : goal.leave-requires-2
leave-requires-2 g c =
    let one = one_above c.keep.new.lease.view c.leave.new.self.view c.keep.ensures.tried.depth_is c.leave.ensures.left in
    omega (arith, one)

pub returns-clause-idle : goal.returns-clause-idle
returns-clause-idle g c =
    let v = c.keep.new.lease.view in
    let w = c.leave.new.self.view in
    let tried = c.keep.ensures.tried in
    idle_above w c.leave-2.new.self.view (blank_above v w tried.blank c.leave.ensures.left) (ap (λ (u : View). u.prepared) c.leave.ensures.left ∙ tried.told)
    (one_above v w tried.depth_is c.leave.ensures.left) c.leave-2.ensures.left

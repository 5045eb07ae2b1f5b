use Rattle.std.proofs.Common.{rules, ◌≡◌, ℕ, ◌*◌, ◌^◌, ◌≤◌, ◌<◌, length, ap, sym, subst, ◌∙◌}
use Rattle.pt_laws.specs.Need.{need}
use Rattle.pt_space.specs.Standing.{Standing}
use Rattle.pt_reply.specs.Built.{machine}
use Rattle.pt_reply.specs.Running.{machine_in}
use Rattle.pt_shared.proofs.Places.{need_few}
use Rattle.pt_shared.proofs.part.SharedPart.need_of.Goals as goal

pub returns-clause-need : goal.returns-clause-need
returns-clause-need g c =
    let f = g.F.Format.layout in
    c.need_on.ensures ∙ (λ i. need (machine f (c.self.invariant.levels_are i) (c.self.invariant.frames_are i)) c.args.commands.now)
    ∙ ap (λ (x : Standing). need (machine_in f x.view) c.args.commands.now) c.self.view_is

pub returns-clause-few : goal.returns-clause-few
returns-clause-few g c =
    let f = g.F.Format.layout in
    let fits : c.self.inside.frames < 2 ^ 32 = search rules in
    subst (λ (n : ℕ). n ≤ length c.args.commands.now * 2 ^ 32) (sym c.need_on.ensures)
    (need_few (machine f c.self.inside.levels c.self.inside.frames) c.args.commands.now fits)

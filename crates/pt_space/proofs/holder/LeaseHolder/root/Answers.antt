use Rattle.std.proofs.Common.{◌≡◌, ℕ, [], ap, sym, ◌∙◌, refl, subst, arith}
use Rattle.pt_view.specs.Calls.{Rooted}
use Rattle.pt_rule.specs.Meets.{Always, IsWhole}
use Rattle.pt_space.specs.Standing.{Standing, cut_to}
use Rattle.pt_space.proofs.Showing.{may_step}
use Rattle.pt_space.proofs.Roots as roots
use Rattle.pt_space.proofs.holder.LeaseHolder.root.Goals as goal

pub load-found-requires-clause-may : goal.load-found-requires-clause-may
load-found-requires-clause-may g c =
    may_step c.self.invariant.3 (ap (λ (x : Standing). x.view.path) c.self.view_is ∙ c.requires) 0 refl (omega arith) (λ n. n) (λ n. refl)

pub returns-clause-rooted : goal.returns-clause-rooted
returns-clause-rooted g c =
    let law = g.met.F.Format in
    let f = g.F.Format.layout in
    let o = c.self.inside in
    let none : (cut_to o.depth o.seat.me.0).path ≡ [] = ap (λ (x : Standing). x.view.path) c.self.view_is ∙ c.requires in
    subst (λ (t : Standing × ℕ). Rooted f Always (IsWhole f t.0.view) t.0.view t.1 (cut_to 1 c.load-found.new.seat.me.0)) (λ i. (c.self.view_is i, sym c.root_level-level.ensures i))
    (roots.rooted law.lawful_layout law.words_differ law.steps_agree c.self.invariant.3 c.self.invariant.2 none c.load-found.ensures.stepped)

pub root_level-level-requires : goal.root_level-level-requires
root_level-level-requires g c = λ fixed. roots.fixed_level g.met.F.Format.lawful_layout fixed c.self.invariant.3.holds c.load-found.ensures.stepped

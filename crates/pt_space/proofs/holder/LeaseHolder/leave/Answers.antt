use Rattle.std.proofs.Common.{◌<◌, length, ap, ◌∙◌, arith, sym, subst}
use Rattle.pt_view.specs.Calls.{left}
use Rattle.pt_space.specs.Standing.{Standing, cut_to}
use Rattle.pt_space.proofs.Nodes as nodes
use Rattle.pt_space.proofs.holder.LeaseHolder.leave.Goals as goal

pub overflow_sub-self : goal.overflow_sub-self
overflow_sub-self g c =
    let o = c.self.inside in
    let some : 0 < length (cut_to o.depth o.seat.me.0).path = subst (λ (x : Standing). 0 < length x.view.path) (sym c.self.view_is) c.requires in
    nodes.some_left g.met.F.Format.lawful_layout c.self.invariant.3 some

pub overflow_add-self : goal.overflow_add-self
overflow_add-self g c =
    let o = c.self.inside in
    let some : 0 < length (cut_to o.depth o.seat.me.0).path = subst (λ (x : Standing). 0 < length x.view.path) (sym c.self.view_is) c.requires in
    let low = nodes.left_room g.met.F.Format.lawful_layout c.self.invariant.3 some in omega arith

pub invariant_of-self : goal.invariant_of-self
invariant_of-self g c =
    let o = c.self.inside in
    let some : 0 < length (cut_to o.depth o.seat.me.0).path = subst (λ (x : Standing). 0 < length x.view.path) (sym c.self.view_is) c.requires in
    let i = c.self.invariant in
    (i.0, i.1, i.2, nodes.shows_left g.met.F.Format.lawful_layout i.3 some)

pub returns-clause-left : goal.returns-clause-left
returns-clause-left g c =
    let o = c.self.inside in
    let some : 0 < length (cut_to o.depth o.seat.me.0).path = subst (λ (x : Standing). 0 < length x.view.path) (sym c.self.view_is) c.requires in
    nodes.left_is g.met.F.Format.lawful_layout c.self.invariant.3 some ∙ ap (λ (x : Standing). left x.view) c.self.view_is

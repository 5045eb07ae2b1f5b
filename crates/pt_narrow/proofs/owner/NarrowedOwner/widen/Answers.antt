use Rattle.std.proofs.Common.{List, [], ◌∷◌, reverse, ap, ◌∙◌, subst}
use Rattle.std.proofs.lemmas.List.{reverse-append}
use Rattle.pt_forks.specs.Places.{IsWidened}
use Rattle.pt_narrow.specs.declared.narrowed.Narrowing.{Narrowing}
use Rattle.pt_narrow.specs.Standing.{Stand, place_of, stand_of}
use Rattle.pt_narrow.proofs.Stands.{widened}
use Rattle.pt_narrow.proofs.owner.NarrowedOwner.widen.Goals as goal

pub returns : goal.returns
returns g c =
    let f = g.F.Format.layout in
    let o = c.self.inside in
    let s : Stand = stand_of o.plain o.first o.count o.cuts.items in
    let ns : List Narrowing = reverse c.pop.new.self.items in
    let n = c.in-Some.cut in
    let outer : Stand = record { owned = o.plain; first = n.first; count = n.count; cuts = ns } in
    subst (λ (x : Stand). IsWidened (place_of f x) (place_of f outer)) c.self.view_is
    (widened f s c.self.invariant n ns (ap reverse c.in-Some.ensures.items ∙ reverse-append c.pop.new.self.items (n ∷ [])))

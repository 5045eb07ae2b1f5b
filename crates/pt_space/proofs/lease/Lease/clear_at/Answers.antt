use Rattle.std.proofs.Common.{refl, sym, ◌∙◌, subst}
use Rattle.pt_view.specs.Calls.{IsCleared, MayClear}
use Rattle.pt_rule.specs.Meets.{Always}
use Rattle.pt_space.specs.Standing.{Standing, cut_to}
use Rattle.pt_space.proofs.Showing.{may_step}
use Rattle.pt_space.proofs.EntryPlaces.{lowest_at, place_at, within_at}
use Rattle.pt_space.proofs.Writing as writing
use Rattle.pt_space.proofs.lease.Lease.clear_at.Goals as goal

pub store_piece-requires-clause-may : goal.store_piece-requires-clause-may
store_piece-requires-clause-may g c =
    let f = g.F.Format.layout in
    let o = c.self.inside in
    let may : MayClear f (cut_to o.depth o.seat.me.0) c.args.number = subst (λ (x : Standing). MayClear f x.view c.args.number) (sym c.self.view_is) c.requires.may in (
      may.0,
      may_step c.self.invariant.3 (lowest_at c.self.view_is c.requires.at, may.1) c.args.place (place_at c.self.view_is c.requires.at) (within_at c.self.view_is c.requires.at may.1.entry.within) (λ _. 0) (λ n. refl),
    )

pub invariant_of-self : goal.invariant_of-self
invariant_of-self g c =
    let law = g.met.F.Format in
    let seat = c.store_piece.ensures.seat in
    (seat.0 ∙ c.self.invariant.0, seat.2 ∙ c.self.invariant.1, c.self.invariant.2, writing.shows_cleared law.lawful_layout law.words_differ law.steps_agree c.self.invariant.3 c.store_piece.ensures.stepped)

pub returns-clause-cleared : goal.returns-clause-cleared
returns-clause-cleared g c =
    let law = g.met.F.Format in
    subst (λ (x : Standing). IsCleared g.F.Format.layout Always c.args.number x.view (cut_to c.self.inside.depth c.store_piece.new.seat.me.0)) c.self.view_is
    (writing.cleared law.lawful_layout law.words_differ law.steps_agree c.self.invariant.3 c.store_piece.ensures.stepped)

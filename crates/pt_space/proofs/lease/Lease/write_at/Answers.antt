use Rattle.std.proofs.Common.{sym, ◌∙◌, subst}
use Rattle.pt_view.specs.Calls.{IsWritten, MayWrite}
use Rattle.pt_rule.specs.Meets.{Always}
use Rattle.pt_space.specs.Standing.{Standing, cut_to}
use Rattle.pt_space.proofs.Showing.{may_step}
use Rattle.pt_space.proofs.EntryPlaces.{lowest_at, place_at, within_at}
use Rattle.pt_space.proofs.Writing as writing
use Rattle.pt_space.proofs.lease.Lease.write_at.Goals as goal

pub store_piece-requires-clause-may : goal.store_piece-requires-clause-may
store_piece-requires-clause-may g c =
    let f = g.F.Format.layout in
    let o = c.self.inside in
    let may : MayWrite f (cut_to o.depth o.seat.me.0) c.args.number c.args.word = subst (λ (x : Standing). MayWrite f x.view c.args.number c.args.word) (sym c.self.view_is) c.requires.may in (
      may.0,
      may_step c.self.invariant.3 (lowest_at c.self.view_is c.requires.at, may.2) c.args.place (place_at c.self.view_is c.requires.at) (within_at c.self.view_is c.requires.at may.2.entry.within) (λ _. c.args.word) (λ n. sym may.1),
    )

pub invariant_of-self : goal.invariant_of-self
invariant_of-self g c =
    let law = g.met.F.Format in
    let seat = c.store_piece.ensures.seat in
    (seat.0 ∙ c.self.invariant.0, seat.2 ∙ c.self.invariant.1, c.self.invariant.2, writing.shows_written law.lawful_layout law.words_differ law.steps_agree c.self.invariant.3 c.store_piece.ensures.stepped)

pub returns-clause-written : goal.returns-clause-written
returns-clause-written g c =
    let law = g.met.F.Format in
    subst (λ (x : Standing). IsWritten g.F.Format.layout Always c.args.number c.args.word x.view (cut_to c.self.inside.depth c.store_piece.new.seat.me.0)) c.self.view_is
    (writing.written law.lawful_layout law.words_differ law.steps_agree c.self.invariant.3 c.store_piece.ensures.stepped)

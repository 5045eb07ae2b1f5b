use Rattle.std.proofs.Common.{◌+◌, refl, ap, sym, ◌∙◌, arith}
use Rattle.pt_view.specs.declared.view.View.{View}
use Rattle.pt_rule.specs.Tags.{first_or, held_word}
use Rattle.pt_space.proofs.Showing.{may_step}
use Rattle.pt_space.proofs.Purses as purses
use Rattle.pt_space.proofs.holder.LeaseHolder.unplace.Goals as goal

pub store-requires-clause-may : goal.store-requires-clause-may
store-requires-clause-may g c =
    let law = g.met.F.Format in
    let v : View = c.self.inside.seat.me.0 in
    let s = c.self.invariant.3 in
    may_step s (purses.prepared_is law.lawful_layout law.words_differ law.steps_agree c.self.invariant.3 c.in-Some.frame c.in-Some.is) (1 + c.in-Some.frame) refl (purses.prepared_tag law.lawful_layout law.words_differ law.steps_agree c.self.invariant.3 c.in-Some.frame c.in-Some.is) (λ _. c.held_word-word.result)
    (λ found. ap held_word (ap (λ e. first_or e v.purse) s.end ∙ s.head) ∙ sym c.held_word-word.ensures)

pub overflow_add-self : goal.overflow_add-self
overflow_add-self g c =
    let law = g.met.F.Format in
    let room = purses.prepared_room law.lawful_layout law.words_differ law.steps_agree c.self.invariant.3 c.in-Some.frame c.in-Some.is in omega arith

pub invariant_of-self : goal.invariant_of-self
invariant_of-self g c =
    let law = g.met.F.Format in
    let seat = c.store.ensures.seat in
    (seat.0 ∙ c.self.invariant.0, seat.2 ∙ c.self.invariant.1, c.self.invariant.2, purses.shows_unplaced law.lawful_layout law.words_differ law.steps_agree c.self.invariant.3 c.in-Some.frame c.in-Some.is c.store.ensures.stepped)

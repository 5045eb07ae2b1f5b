use Rattle.std.proofs.Common.{◌≡◌, ◌+◌, ◌<◌, ℕ, refl, ap, sym, ◌∙◌, arith}
use Rattle.std.specs.Prelude.{◌==◌}
use prog.Atomic.{either}
use Rattle.pt_view.specs.declared.view.View.{View}
use Rattle.pt_rule.specs.Tags.{first_or, held_word}
use Rattle.pt_space.specs.Standing.{Standing}
use Rattle.pt_space.proofs.Showing.{may_step, puts_if}
use Rattle.pt_space.proofs.Takes as takes
use Rattle.pt_space.proofs.holder.LeaseHolder.take.Given.{Over}
use Rattle.pt_space.proofs.holder.LeaseHolder.take.Goals as goal
use Rattle.pt_space.proofs.holder.LeaseHolder.take.Goals.{After-held_word-word}

within : (g : Over) (c : After-held_word-word g) → c.args.frame < c.self.inside.space.now.frames
within g c = let a = c.requires in let e = ap (λ (x : Standing). x.view.frames) c.self.view_is in let n = c.self.invariant.3.holds.frames in omega arith

pub exchange-found-requires-clause-may : goal.exchange-found-requires-clause-may
exchange-found-requires-clause-may g c =
    let d = (goal.at.exchange-found-requires-clause-may g c).After-held_word-word in
    let v : View = c.self.inside.seat.me.0 in
    let s = c.self.invariant.3 in
    let lt = within g d in
    let new : held_word (first_or v.end v.purse) ≡ c.held_word-word.result = ap held_word (ap (λ e. first_or e v.purse) s.end ∙ s.head) ∙ sym c.held_word-word.ensures in
    may_step s lt (1 + c.args.frame) refl (omega arith) (λ n. either (n == 0) c.held_word-word.result n)
    (λ found. puts_if (found == 0) (held_word (first_or v.end v.purse)) found ∙ ap (λ (x : ℕ). either (found == 0) x found) new)

pub invariant_of-self : goal.invariant_of-self
invariant_of-self g c =
    let law = g.met.F.Format in
    let lt = within g (goal.at.invariant_of-self g c).After-held_word-word in
    let seat = c.exchange-found.ensures.seat in
    (seat.0 ∙ c.self.invariant.0, seat.2 ∙ c.self.invariant.1, c.self.invariant.2, takes.shows_lost law.lawful_layout law.words_differ law.steps_agree c.self.invariant.3 lt c.exchange-found.ensures.stepped c.if-found-ne0.true)

pub overflow_add-self : goal.overflow_add-self
overflow_add-self g c =
    let law = g.met.F.Format in
    let lt = within g (goal.at.overflow_add-self g c).After-held_word-word in
    let more = takes.room law.lawful_layout law.words_differ law.steps_agree c.self.invariant.3 lt c.exchange-found.ensures.stepped c.if-found-ne0.false in omega arith

pub invariant_of-self-2 : goal.invariant_of-self-2
invariant_of-self-2 g c =
    let law = g.met.F.Format in
    let lt = within g (goal.at.invariant_of-self-2 g c).After-held_word-word in
    let seat = c.exchange-found.ensures.seat in
    (seat.0 ∙ c.self.invariant.0, seat.2 ∙ c.self.invariant.1, c.self.invariant.2, takes.shows_won law.lawful_layout law.words_differ law.steps_agree c.self.invariant.3 lt c.exchange-found.ensures.stepped c.if-found-ne0.false)

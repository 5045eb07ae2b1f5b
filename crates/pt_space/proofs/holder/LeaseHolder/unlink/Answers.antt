use Rattle.std.proofs.Common.{◌≡◌, ◌<◌, ◌+◌, refl, sym, ap, ◌∙◌, subst, arith}
use Rattle.pt_model.specs.Words.{entry_place, frame_named, word_count}
use Rattle.pt_format.specs.Words.{IsTableAddress}
use Rattle.pt_view.specs.Calls.{IsUnlinked, MayUnlink, UnlinkFinds}
use Rattle.pt_rule.specs.Kinds.{IsLowestIn}
use Rattle.pt_rule.specs.Meets.{Always, IsWhole}
use Rattle.pt_space.specs.Standing.{Standing, cut_to}
use Rattle.pt_space.proofs.Showing.{may_next, may_step}
use Rattle.pt_space.proofs.Unlinks as unlinks
use Rattle.pt_space.proofs.holder.LeaseHolder.unlink.Given.{Over}
use Rattle.pt_space.proofs.holder.LeaseHolder.unlink.Goals as goal
use Rattle.pt_space.proofs.holder.LeaseHolder.unlink.Goals.{After-entry-frame, After-frame_named-child}

module _ (g : Over) (c : After-entry-frame g) where
  may : MayUnlink g.F.Format.layout (cut_to c.self.inside.depth c.self.inside.seat.me.0) c.args.number
  may = subst (λ (x : Standing). MayUnlink g.F.Format.layout x.view c.args.number) (sym c.self.view_is) c.requires

  low : IsLowestIn (cut_to c.self.inside.depth c.self.inside.seat.me.0) c.entry-frame.result.0
  low = subst (λ (x : Standing). IsLowestIn x.view c.entry-frame.result.0) (sym c.self.view_is) c.entry-frame.ensures.lowest

  place : entry_place g.F.Format.layout c.self.inside.space.now.frames c.entry-frame.result.0 c.args.number ≡ c.entry-frame.result.1
  place = subst (λ (x : Standing). entry_place g.F.Format.layout x.space.frames c.entry-frame.result.0 c.args.number ≡ c.entry-frame.result.1) (sym c.self.view_is) c.entry-frame.ensures.place

  within : c.entry-frame.result.1 < word_count g.F.Format.layout c.self.inside.space.now.frames
  within = subst (λ (x : Standing). c.entry-frame.result.1 < word_count g.F.Format.layout x.space.frames) (sym c.self.view_is) c.entry-frame.ensures.within

pub entry-frame-requires : goal.entry-frame-requires
entry-frame-requires g c = (c.requires.position, c.requires.entry)

pub load-word-requires-clause-may : goal.load-word-requires-clause-may
load-word-requires-clause-may g c =
    let law = g.met.F.Format in
    let d = (goal.at.load-word-requires-clause-may g c).After-entry-frame in
    may_step c.self.invariant.3 (unlinks.may_look law.lawful_layout law.words_differ law.steps_agree c.self.invariant.3 (may g d) (low g d)) c.entry-frame.result.1 (place g d) (within g d) (λ n. n) (λ n. refl)

pub address_of-requires : goal.address_of-requires
address_of-requires g c =
    let law = g.met.F.Format in
    let d = (goal.at.address_of-requires g c).After-entry-frame in
    record { a_pointer = unlinks.pointer law.lawful_layout law.words_differ law.steps_agree c.self.invariant.3 (may g d) (low g d) c.load-word.ensures.stepped }

pub frame_named-child-requires : goal.frame_named-child-requires
frame_named-child-requires g c =
    let law = g.met.F.Format in
    let d = (goal.at.frame_named-child-requires g c).After-entry-frame in
    let read = unlinks.pointer law.lawful_layout law.words_differ law.steps_agree c.self.invariant.3 (may g d) (low g d) c.load-word.ensures.stepped in
    subst (IsTableAddress g.F.Format.layout) (sym (c.address_of.ensures read.0 read.1)) read.1.a_frame

-- the child's frame is read from the entry
child_is : (g : Over) (c : After-frame_named-child g) →
    (let d = (goal.at.After-frame_named-child g c).After-entry-frame in let law = g.met.F.Format in
    c.frame_named-child.result ≡ frame_named g.F.Format.layout (unlinks.pointer law.lawful_layout law.words_differ law.steps_agree c.self.invariant.3 (may g d) (low g d) c.load-word.ensures.stepped).0)
child_is g c =
    let law = g.met.F.Format in
    let d = (goal.at.After-frame_named-child g c).After-entry-frame in
    let read = unlinks.pointer law.lawful_layout law.words_differ law.steps_agree c.self.invariant.3 (may g d) (low g d) c.load-word.ensures.stepped in
    c.frame_named-child.ensures ∙ ap (frame_named g.F.Format.layout) (c.address_of.ensures read.0 read.1)

pub store_zero-requires-clause-may : goal.store_zero-requires-clause-may
store_zero-requires-clause-may g c =
    let law = g.met.F.Format in
    let d = (goal.at.store_zero-requires-clause-may g c).After-entry-frame in
    let t = c.load-word.ensures.stepped in
    may_next t.holds (unlinks.may_unlink law.lawful_layout law.words_differ law.steps_agree c.self.invariant.3 (may g d) (low g d) t) c.entry-frame.result.1 (place g d) (within g d) (λ _. 0) (λ n. refl)

pub store-requires-clause-may : goal.store-requires-clause-may
store-requires-clause-may g c =
    let law = g.met.F.Format in
    let d = (goal.at.store-requires-clause-may g c).After-entry-frame in
    let is = child_is g (goal.at.store-requires-clause-may g c).After-frame_named-child in
    let t = c.load-word.ensures.stepped in
    let t' = c.store_zero.ensures.stepped in
    let lt = unlinks.child_within law.lawful_layout law.words_differ law.steps_agree c.self.invariant.3 (may g d) (low g d) t t' c.frame_named-child.result is in
    may_next t'.1.holds (unlinks.may_unplace law.lawful_layout law.words_differ law.steps_agree c.self.invariant.3 (may g d) (low g d) t t' c.frame_named-child.result is) (1 + c.frame_named-child.result) refl (omega arith) (λ _. c.held_word-tag.result)
    (λ n. unlinks.puts law.lawful_layout law.words_differ law.steps_agree c.self.invariant.3 (may g d) (low g d) t t' c.frame_named-child.result is ∙ sym c.held_word-tag.ensures)

pub overflow_add-self : goal.overflow_add-self
overflow_add-self g c =
    let law = g.met.F.Format in
    let d = (goal.at.overflow_add-self g c).After-entry-frame in
    let is = child_is g (goal.at.overflow_add-self g c).After-frame_named-child in
    let room = unlinks.unlinked_room law.lawful_layout law.words_differ law.steps_agree c.self.invariant.3 (may g d) (low g d) c.load-word.ensures.stepped c.store_zero.ensures.stepped c.frame_named-child.result is c.store.ensures.stepped in omega arith

pub invariant_of-self : goal.invariant_of-self
invariant_of-self g c =
    let law = g.met.F.Format in
    let d = (goal.at.invariant_of-self g c).After-entry-frame in
    let is = child_is g (goal.at.invariant_of-self g c).After-frame_named-child in
    let a = c.load-word.ensures.seat in
    let b = c.store_zero.ensures.seat in
    let e = c.store.ensures.seat in (
      e.0 ∙ b.0 ∙ a.0 ∙ c.self.invariant.0,
      e.2 ∙ b.2 ∙ a.2 ∙ c.self.invariant.1,
      c.self.invariant.2,
      unlinks.shows_unlinked law.lawful_layout law.words_differ law.steps_agree c.self.invariant.3 (may g d) (low g d) c.load-word.ensures.stepped c.store_zero.ensures.stepped c.frame_named-child.result is c.store.ensures.stepped,
    )

pub returns-clause-unlinked : goal.returns-clause-unlinked
returns-clause-unlinked g c =
    let law = g.met.F.Format in
    let d = (goal.at.returns-clause-unlinked g c).After-entry-frame in
    let is = child_is g (goal.at.returns-clause-unlinked g c).After-frame_named-child in
    subst (λ (x : Standing). IsUnlinked g.F.Format.layout Always c.args.number x.view (cut_to c.self.inside.depth c.store.new.seat.me.0)) c.self.view_is
    (unlinks.unlinked law.lawful_layout law.words_differ law.steps_agree c.self.invariant.3 (may g d) (low g d) c.load-word.ensures.stepped c.store_zero.ensures.stepped c.frame_named-child.result is c.store.ensures.stepped)

pub returns-clause-found : goal.returns-clause-found
returns-clause-found g c =
    let law = g.met.F.Format in
    let d = (goal.at.returns-clause-found g c).After-entry-frame in
    subst (λ (x : Standing). UnlinkFinds g.F.Format.layout (IsWhole g.F.Format.layout x.view) c.args.number x.view) c.self.view_is
    (unlinks.found_own law.lawful_layout law.words_differ law.steps_agree c.self.invariant.3 (may g d) (low g d) c.load-word.ensures.stepped)

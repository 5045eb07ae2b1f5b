use Rattle.std.proofs.Common.{◌+◌, ◌∷◌, [], refl, ◌∙◌, subst}
use Rattle.pt_view.specs.Calls.{IsFreed}
use Rattle.pt_rule.specs.Meets.{Always}
use Rattle.pt_space.specs.Standing.{Standing, cut_to}
use Rattle.pt_space.proofs.Showing.{may_next, may_step}
use Rattle.pt_space.proofs.Purses as purses
use Rattle.pt_space.proofs.lease.Lease.free_first.Goals as goal

pub load-tag-requires-clause-may : goal.load-tag-requires-clause-may
load-tag-requires-clause-may g c =
    let law = g.met.F.Format in
    may_step c.self.invariant.3 (purses.mine law.lawful_layout law.words_differ law.steps_agree c.self.invariant.3 c.in-Some.frame c.in-Some.is) (1 + c.in-Some.frame) refl (purses.tag_within law.lawful_layout law.words_differ law.steps_agree c.self.invariant.3 c.in-Some.frame c.in-Some.is) (λ n. n) (λ n. refl)

pub next_in-next-requires : goal.next_in-next-requires
next_in-next-requires g c = let law = g.met.F.Format in purses.next_named law.lawful_layout law.words_differ law.steps_agree c.self.invariant.3 c.in-Some.frame c.in-Some.is c.load-tag.ensures.stepped

pub store-requires-clause-may : goal.store-requires-clause-may
store-requires-clause-may g c =
    let law = g.met.F.Format in
    let t = c.load-tag.ensures.stepped in
    may_next t.holds (purses.may_free law.lawful_layout law.words_differ law.steps_agree c.self.invariant.3 c.in-Some.frame c.in-Some.is t c.next_in-next.result c.next_in-next.ensures) (1 + c.in-Some.frame) refl (purses.tag_within law.lawful_layout law.words_differ law.steps_agree c.self.invariant.3 c.in-Some.frame c.in-Some.is) (λ _. 0) (λ n. refl)

pub overflow_sub-self : goal.overflow_sub-self
overflow_sub-self g c = let law = g.met.F.Format in purses.some_held law.lawful_layout law.words_differ law.steps_agree c.self.invariant.3 c.in-Some.frame c.in-Some.is

pub invariant_of-self : goal.invariant_of-self
invariant_of-self g c =
    let law = g.met.F.Format in
    let first = c.load-tag.ensures.seat in
    let last = c.store.ensures.seat in (
      last.0 ∙ first.0 ∙ c.self.invariant.0,
      last.2 ∙ first.2 ∙ c.self.invariant.1,
      c.self.invariant.2,
      purses.shows_freed law.lawful_layout law.words_differ law.steps_agree c.self.invariant.3 c.in-Some.frame c.in-Some.is c.load-tag.ensures.stepped c.next_in-next.result c.next_in-next.ensures c.store.ensures.stepped,
    )

pub returns-clause-freed : goal.returns-clause-freed
returns-clause-freed g c =
    let law = g.met.F.Format in (
      c.in-Some.frame,
      subst (λ (x : Standing). IsFreed Always (c.in-Some.frame ∷ []) x.view (cut_to c.self.inside.depth c.store.new.seat.me.0)) c.self.view_is
          (purses.freed law.lawful_layout law.words_differ law.steps_agree c.self.invariant.3 c.in-Some.frame c.in-Some.is c.load-tag.ensures.stepped c.next_in-next.result c.next_in-next.ensures c.store.ensures.stepped),
    )

use Rattle.std.proofs.Common.{◌≡◌, ◌+◌, refl, ap, sym, ◌∙◌, subst, arith}
use Rattle.std.specs.Prelude.{None}
use Rattle.pt_model.specs.declared.position.Position.{Position}
use Rattle.pt_model.specs.Tables.{IsPosition}
use Rattle.pt_model.specs.Words.{placed_at, placed_word}
use Rattle.pt_view.specs.Calls.{IsPlaced}
use Rattle.pt_rule.proofs.HolderFacts.{placed_back}
use Rattle.pt_rule.specs.Meets.{Always}
use Rattle.pt_space.specs.Standing.{Standing, cut_to}
use Rattle.pt_space.proofs.Showing.{may_next, may_step, pages_few}
use Rattle.pt_space.proofs.Purses as purses
use Rattle.pt_space.proofs.holder.LeaseHolder.place.Given.{Over}
use Rattle.pt_space.proofs.holder.LeaseHolder.place.Goals as goal
use Rattle.pt_space.proofs.holder.LeaseHolder.place.Goals.{After-placed_word-word}

pub load-tag-requires-clause-may : goal.load-tag-requires-clause-may
load-tag-requires-clause-may g c =
    let law = g.met.F.Format in
    may_step c.self.invariant.3 (purses.mine law.lawful_layout law.words_differ law.steps_agree c.self.invariant.3 c.in-Some.frame c.in-Some.is) (1 + c.in-Some.frame) refl (purses.tag_within law.lawful_layout law.words_differ law.steps_agree c.self.invariant.3 c.in-Some.frame c.in-Some.is) (λ n. n) (λ n. refl)

pub next_in-next-requires : goal.next_in-next-requires
next_in-next-requires g c = let law = g.met.F.Format in purses.next_named law.lawful_layout law.words_differ law.steps_agree c.self.invariant.3 c.in-Some.frame c.in-Some.is c.load-tag.ensures.stepped

pub placed_word-word-requires-clause-few : goal.placed_word-word-requires-clause-few
placed_word-word-requires-clause-few g c =
    let page = c.requires.legal.a_page in
    let most = pages_few g.F.Format.layout g.met.F.Format.lawful_layout in omega arith

-- the position is read back from its word
module _ (g : Over) (c : After-placed_word-word g) where
  back : placed_at c.placed_word-word.result ≡ record { level = c.args.level; base = c.args.base }
  back = ap placed_at c.placed_word-word.ensures ∙ placed_back (record { level = c.args.level; base = c.args.base }) (let a = c.requires.legal.a_level in let b = g.met.F.Format.lawful_layout.levels_high in omega arith)

  legal : IsPosition g.F.Format.layout (placed_at c.placed_word-word.result)
  legal = subst (IsPosition g.F.Format.layout) (sym back) c.requires.legal

  none : (cut_to c.self.inside.depth c.self.inside.seat.me.0).prepared ≡ None
  none = ap (λ (x : Standing). x.view.prepared) c.self.view_is ∙ c.requires.none

pub store-requires-clause-may : goal.store-requires-clause-may
store-requires-clause-may g c =
    let law = g.met.F.Format in
    let d = (goal.at.store-requires-clause-may g c).After-placed_word-word in
    let t = c.load-tag.ensures.stepped in
    may_next t.holds (purses.may_place law.lawful_layout law.words_differ law.steps_agree c.self.invariant.3 c.in-Some.frame c.in-Some.is t c.next_in-next.result c.next_in-next.ensures (none g d) (legal g d)) (1 + c.in-Some.frame) refl
    (purses.tag_within law.lawful_layout law.words_differ law.steps_agree c.self.invariant.3 c.in-Some.frame c.in-Some.is) (λ _. c.placed_word-word.result) (λ n. ap placed_word (back g d) ∙ sym c.placed_word-word.ensures)

pub overflow_sub-self : goal.overflow_sub-self
overflow_sub-self g c = let law = g.met.F.Format in purses.some_held law.lawful_layout law.words_differ law.steps_agree c.self.invariant.3 c.in-Some.frame c.in-Some.is

pub invariant_of-self : goal.invariant_of-self
invariant_of-self g c =
    let law = g.met.F.Format in
    let d = (goal.at.invariant_of-self g c).After-placed_word-word in
    let first = c.load-tag.ensures.seat in
    let last = c.store.ensures.seat in (
      last.0 ∙ first.0 ∙ c.self.invariant.0,
      last.2 ∙ first.2 ∙ c.self.invariant.1,
      c.self.invariant.2,
      purses.shows_placed law.lawful_layout law.words_differ law.steps_agree c.self.invariant.3 c.in-Some.frame c.in-Some.is c.load-tag.ensures.stepped c.next_in-next.result c.next_in-next.ensures (none g d) (legal g d) c.store.ensures.stepped,
    )

pub returns-clause-placed : goal.returns-clause-placed
returns-clause-placed g c =
    let law = g.met.F.Format in
    let d = (goal.at.returns-clause-placed g c).After-placed_word-word in
    subst (λ (x : Standing). IsPlaced Always x.view (record { level = c.args.level; base = c.args.base }) (cut_to c.self.inside.depth c.store.new.seat.me.0)) c.self.view_is
    (subst (λ (q : Position). IsPlaced Always (cut_to c.self.inside.depth c.self.inside.seat.me.0) q (cut_to c.self.inside.depth c.store.new.seat.me.0)) (back g d)
    (purses.placed law.lawful_layout law.words_differ law.steps_agree c.self.invariant.3 c.in-Some.frame c.in-Some.is c.load-tag.ensures.stepped c.next_in-next.result c.next_in-next.ensures (none g d) (legal g d) c.store.ensures.stepped))

use Rattle.std.proofs.Common.{◌≡◌, ◌≢◌, ℕ, ◌<◌, ◌+◌, refl, sym, ap, ◌∙◌, subst, arith, length-set}
use Rattle.std.specs.Prelude.{slice_index, ◌==◌}
use prog.Atomic.{either}
use Rattle.pt_model.specs.Words.{entry_place, root_word, word_count}
use Rattle.pt_view.specs.declared.holder.Won.TheVariants.{Yes, Met}
use Rattle.pt_view.specs.Calls.{IsGrown, MayGrow}
use Rattle.pt_rule.specs.Kinds.{Kind, May, put}
use Rattle.pt_rule.specs.Meets.{Always, IsWhole}
use Rattle.pt_space.specs.Standing.{SpaceId, Standing, Stepped, cut_to}
use Rattle.pt_space.proofs.Showing.{may_next, may_step}
use Rattle.pt_space.proofs.Growths as growths
use Rattle.pt_space.proofs.Growths.{bridging, raising}
use Rattle.pt_space.proofs.holder.LeaseHolder.grow.Given.{Over}
use Rattle.pt_space.proofs.holder.LeaseHolder.grow.Goals as goal
use Rattle.pt_space.proofs.holder.LeaseHolder.grow.Goals.{After-entry_place-place, After-root_word-new, After-exchange-found}

module _ (g : Over) (c : After-entry_place-place g) where
  may : MayGrow (cut_to c.self.inside.depth c.self.inside.seat.me.0)
  may = subst (λ (x : Standing). MayGrow x.view) (sym c.self.view_is) c.requires

  frames_are : c.space.inside.frames ≡ c.self.inside.space.now.frames
  frames_are = sym c.space.invariant.frames_are ∙ ap (λ (x : SpaceId). x.frames) c.space.view_is

  place : entry_place g.F.Format.layout c.self.inside.space.now.frames c.in-Some.frame 0 ≡ c.entry_place-place.result
  place = ap (λ (n : ℕ). entry_place g.F.Format.layout n c.in-Some.frame 0) (sym frames_are) ∙ sym c.entry_place-place.ensures.place

  within : c.entry_place-place.result < word_count g.F.Format.layout c.self.inside.space.now.frames
  within = subst (λ (n : ℕ). c.entry_place-place.result < word_count g.F.Format.layout n) frames_are c.entry_place-place.ensures.within

pub overflow_add-level : goal.overflow_add-level
overflow_add-level g c =
    let few = growths.few_levels g.met.F.Format.lawful_layout c.self.invariant.3 (may g (goal.at.overflow_add-level g c).After-entry_place-place) in omega arith

pub frame_address-requires : goal.frame_address-requires
frame_address-requires g c = growths.root_within g.met.F.Format.lawful_layout c.self.invariant.3 (may g (goal.at.frame_address-requires g c).After-entry_place-place)

pub table_word-pointer-requires-clause-above : goal.table_word-pointer-requires-clause-above
table_word-pointer-requires-clause-above g c =
    growths.table_level g.met.F.Format.lawful_layout c.self.invariant.3 (may g (goal.at.table_word-pointer-requires-clause-above g c).After-entry_place-place)

pub store-requires-clause-may : goal.store-requires-clause-may
store-requires-clause-may g c =
    let f = g.F.Format.layout in
    let good = g.met.F.Format.lawful_layout in
    let d = (goal.at.store-requires-clause-may g c).After-entry_place-place in
    may_step c.self.invariant.3 (growths.may_bridge good c.self.invariant.3 (may g d) c.in-Some.frame c.in-Some.is) c.entry_place-place.result
    (growths.bridge_place good c.self.invariant.3 (may g d) c.in-Some.frame c.in-Some.is ∙ place g d) (within g d) (λ _. c.table_word-pointer.result)
    (λ n. growths.puts_bridge good c.self.invariant.3 (may g d) c.in-Some.frame c.in-Some.is n ∙ sym (c.table_word-pointer.ensures ∙ ap (f.pointer (c.self.inside.level + 1)) c.frame_address.ensures.address))

pub overflow_add-level-2 : goal.overflow_add-level-2
overflow_add-level-2 g c =
    let few = growths.few_levels g.met.F.Format.lawful_layout c.self.invariant.3 (may g (goal.at.overflow_add-level-2 g c).After-entry_place-place) in omega arith

-- the exchange, by the words that it is told
module _ (g : Over) (c : After-root_word-new g) where
  bridged : (was : ℕ) × Stepped g.F.Format.layout c.self.inside.space.now.frames c.self.inside.space.now.levels (bridging c.in-Some.frame (cut_to c.self.inside.depth c.self.inside.seat.me.0).path) (cut_to c.self.inside.depth c.self.inside.seat.me.0) was c.store.new.seat.me.0
  bridged = c.store.ensures.stepped

  words : raising (root_word (slice_index c.self.inside.path 0) c.self.inside.level) (root_word c.in-Some.frame (c.self.inside.level + 1)) ≡ raising c.root_word-old.result c.root_word-new.result
  words = λ i. raising (sym c.root_word-old.ensures i) (sym c.root_word-new.ensures i)

pub exchange-found-requires-clause-may : goal.exchange-found-requires-clause-may
exchange-found-requires-clause-may g c =
    let good = g.met.F.Format.lawful_layout in
    let f = g.F.Format.layout in
    let w = c.store.new.seat.me.0 in
    let d = (goal.at.exchange-found-requires-clause-may g c).After-root_word-new in
    let e = (goal.at.exchange-found-requires-clause-may g c).After-entry_place-place in
    let old : ℕ = root_word (slice_index c.self.inside.path 0) c.self.inside.level in
    let new : ℕ = root_word c.in-Some.frame (c.self.inside.level + 1) in
    let asked = may g e in
    may_next (bridged g d).1.holds (subst (λ (k : Kind). May f c.self.inside.space.now.frames k w) (words g d) (growths.may_raise good c.self.invariant.3 asked c.in-Some.frame c.in-Some.is (bridged g d))) 0 refl (omega arith)
    (λ n. either (n == c.root_word-old.result) c.root_word-new.result n)
    (λ n. ap (λ (k : Kind). put f k w n) (sym (words g d)) ∙ growths.puts_raise good c.self.invariant.3 asked c.in-Some.frame c.in-Some.is (bridged g d) n ∙ (λ i. either (n == sym c.root_word-old.ensures i) (sym c.root_word-new.ensures i) n))

-- what the exchange was told, by the frame and the level of each root
module _ (g : Over) (c : After-exchange-found g) where
  abbrev raised : Type 0
  raised = Stepped g.F.Format.layout c.self.inside.space.now.frames c.self.inside.space.now.levels (raising (root_word (slice_index c.self.inside.path 0) c.self.inside.level) (root_word c.in-Some.frame (c.self.inside.level + 1))) c.store.new.seat.me.0 c.exchange-found.result c.exchange-found.new.seat.me.0

  exchanged : raised
  exchanged =
      let d = (goal.at.After-exchange-found g c).After-root_word-new in
      subst (λ (k : Kind). Stepped g.F.Format.layout c.self.inside.space.now.frames c.self.inside.space.now.levels k c.store.new.seat.me.0 c.exchange-found.result c.exchange-found.new.seat.me.0) (sym (words g d)) c.exchange-found.ensures.stepped

  lost : c.exchange-found.result ≢ c.root_word-old.result → c.exchange-found.result ≢ root_word (slice_index c.self.inside.path 0) c.self.inside.level
  lost other was = other (was ∙ sym c.root_word-old.ensures)

pub invariant_of-self : goal.invariant_of-self
invariant_of-self g c =
    let good = g.met.F.Format.lawful_layout in
    let e = (goal.at.invariant_of-self g c).After-exchange-found in
    let asked = may g (goal.at.invariant_of-self g c).After-entry_place-place in
    let first = c.store.ensures.seat in
    let last = c.exchange-found.ensures.seat in (
      last.0 ∙ first.0 ∙ c.self.invariant.0,
      last.2 ∙ first.2 ∙ c.self.invariant.1,
      length-set c.self.inside.path 0 c.in-Some.frame ∙ c.self.invariant.2,
      growths.shows_won good c.self.invariant.3 asked c.in-Some.frame c.in-Some.is c.store.ensures.stepped (exchanged g e) (c.if-found-old.true ∙ c.root_word-old.ensures) c.self.invariant.2,
    )

pub returns-then-found-old-clause-grown : goal.returns-then-found-old-clause-grown
returns-then-found-old-clause-grown g c =
    let good = g.met.F.Format.lawful_layout in
    let f = g.F.Format.layout in
    let e = (goal.at.returns-then-found-old-clause-grown g c).After-exchange-found in
    let asked = may g (goal.at.returns-then-found-old-clause-grown g c).After-entry_place-place in
    subst (λ (x : Standing). IsGrown f Always (IsWhole f x.view) x.view Yes (cut_to c.self.inside.depth c.exchange-found.new.seat.me.0)) c.self.view_is
    (growths.grown good c.self.invariant.3 asked c.in-Some.frame c.in-Some.is c.store.ensures.stepped (exchanged g e) (c.if-found-old.true ∙ c.root_word-old.ensures))

pub store_zero-requires-clause-may : goal.store_zero-requires-clause-may
store_zero-requires-clause-may g c =
    let good = g.met.F.Format.lawful_layout in
    let d = (goal.at.store_zero-requires-clause-may g c).After-entry_place-place in
    let e = (goal.at.store_zero-requires-clause-may g c).After-exchange-found in
    let t = exchanged g e in
    let other = lost g e c.if-found-old.false in
    may_next t.holds (growths.may_unbridge good c.self.invariant.3 (may g d) c.in-Some.frame c.in-Some.is c.store.ensures.stepped t other) c.entry_place-place.result
    (growths.unbridge_place good c.self.invariant.3 (may g d) c.in-Some.frame c.in-Some.is c.store.ensures.stepped t other ∙ place g d) (within g d) (λ _. 0)
    (growths.puts_zero good c.self.invariant.3 (may g d) c.in-Some.frame c.in-Some.is c.store.ensures.stepped t other)

pub invariant_of-self-2 : goal.invariant_of-self-2
invariant_of-self-2 g c =
    let good = g.met.F.Format.lawful_layout in
    let asked = may g (goal.at.invariant_of-self-2 g c).After-entry_place-place in
    let e = (goal.at.invariant_of-self-2 g c).After-exchange-found in
    let a = c.store.ensures.seat in
    let b = c.exchange-found.ensures.seat in
    let z = c.store_zero.ensures.seat in (
      z.0 ∙ b.0 ∙ a.0 ∙ c.self.invariant.0,
      z.2 ∙ b.2 ∙ a.2 ∙ c.self.invariant.1,
      c.self.invariant.2,
      growths.shows_lost good c.self.invariant.3 asked c.in-Some.frame c.in-Some.is c.store.ensures.stepped (exchanged g e) (lost g e c.if-found-old.false) c.store_zero.ensures.stepped,
    )

pub returns-clause-grown : goal.returns-clause-grown
returns-clause-grown g c =
    let good = g.met.F.Format.lawful_layout in
    let f = g.F.Format.layout in
    let asked = may g (goal.at.returns-clause-grown g c).After-entry_place-place in
    let e = (goal.at.returns-clause-grown g c).After-exchange-found in
    subst (λ (x : Standing). IsGrown f Always (IsWhole f x.view) x.view Met (cut_to 0 c.store_zero.new.seat.me.0)) c.self.view_is
    (growths.not_grown good c.self.invariant.3 asked c.in-Some.frame c.in-Some.is c.store.ensures.stepped (exchanged g e) (lost g e c.if-found-old.false) c.store_zero.ensures.stepped)

use Rattle.std.proofs.Common.{◌≡◌, ◌≢◌, ℕ, ◌+◌, ◌<◌, List, length, refl, ap, sym, ◌∙◌, subst, arith, take, drop, ◌++◌}
use Rattle.std.specs.Prelude.{slice_set}
use Rattle.pt_model.specs.Words.{tag}
use Rattle.pt_rule.specs.Tags.{held_word}
use Rattle.pt_plain.specs.Owner.{Owned}
use Rattle.pt_plain.proofs.Laws.{Laws}
use Rattle.pt_plain.proofs.Owners.{kept_aside, seen}
use Rattle.pt_words.proofs.Stored.{stored}
use Rattle.pt_plain.proofs.TagCalls as tags
use Rattle.pt_plain.proofs.holder.PlainHolder.take.Given.{Over}
use Rattle.pt_plain.proofs.holder.PlainHolder.take.Goals as goal
use Rattle.pt_plain.proofs.holder.PlainHolder.take.Goals.{Then-tag_of-ne0, After-set_tag}

laws : (g : Over) → Laws g.F.Format.layout
laws g = let law = g.met.F.Format in record { layout = law.lawful_layout; differ = law.words_differ; agree = law.steps_agree }

-- The frame isn't free.

not_free : (g : Over) (c : Then-tag_of-ne0 g) → tag c.self.inside.words.items c.args.frame ≢ 0
not_free g c z = c.if-tag_of-ne0.true (c.tag_of.ensures ∙ ap (λ (ws : List ℕ). tag ws c.args.frame) c.deref.ensures.value ∙ z)

within : (g : Over) (c : Then-tag_of-ne0 g) → c.args.frame < c.self.inside.frames
within g c = let e = tags.frames_are (laws g) c.self.invariant in let h = subst (λ (x : Owned). c.args.frame < x.view.frames) (sym c.self.view_is) c.requires in omega arith

module _ (g : Over) (c : Then-tag_of-ne0 g) where
  lost : tags.Lost c.self.invariant c.args.frame c.taken_upto-self-inside.result
  lost = tags.not_taken (laws g) c.self.invariant c.args.frame (within g c) (not_free g c) c.taken_upto-self-inside.result c.taken_upto-self-inside.ensures

pub invariant_of-self : goal.invariant_of-self
invariant_of-self g c = (lost g (goal.at.invariant_of-self g c).Then-tag_of-ne0).owner

pub returns-then-tag_of-ne0-clause-stays : goal.returns-then-tag_of-ne0-clause-stays
returns-then-tag_of-ne0-clause-stays g c = record { same_space = refl; same_aside = kept_aside (lost g c) c.self.view_is; still_alone = λ a. a }

pub returns-then-tag_of-ne0-clause-taken : goal.returns-then-tag_of-ne0-clause-taken
returns-then-tag_of-ne0-clause-taken g c = seen (lost g c) c.self.view_is

pub returns-then-tag_of-ne0-clause-all : goal.returns-then-tag_of-ne0-clause-all
returns-then-tag_of-ne0-clause-all g c = λ _. tags.every (laws g) (lost g c).owner

-- The frame is free.
module _ (g : Over) (c : After-set_tag g) where
  below : c.args.frame < c.self.inside.frames
  below = let e = tags.frames_are (laws g) c.self.invariant in let h = subst (λ (x : Owned). c.args.frame < x.view.frames) (sym c.self.view_is) c.requires in omega arith

  free : tag c.self.inside.words.items c.args.frame ≡ 0
  free = sym (c.tag_of.ensures ∙ ap (λ (ws : List ℕ). tag ws c.args.frame) c.deref.ensures.value) ∙ c.if-tag_of-ne0.false

  abbrev words' : List ℕ
  words' = take c.self.inside.words.len (c.set_tag.new.words ++ drop (length c.set_tag.new.words) c.self.inside.words.items)

  words_now : words' ≡ slice_set c.self.inside.words.items (1 + c.args.frame) (held_word c.self.inside.head)
  words_now =
      let o = c.self.inside in
      stored c.set_tag.new.words c.deref_mut.result.now o.words.items o.words.len (1 + c.args.frame) (held_word o.head)
      (c.set_tag.ensures ∙ ap (slice_set c.deref_mut.result.now (1 + c.args.frame)) c.held_word.ensures) c.deref_mut.ensures.value o.words.ok.0

  call : tags.Taken c.self.invariant c.args.frame words' c.taken_upto-self-inside.result
  call = tags.taken (laws g) c.self.invariant c.args.frame below free words' words_now c.taken_upto-self-inside.result c.taken_upto-self-inside.ensures

pub overflow_add-self : goal.overflow_add-self
overflow_add-self g e =
    let c = (goal.at.overflow_add-self g e).After-set_tag in
    let room = tags.take_room (laws g) c.self.invariant c.args.frame (below g c) (free g c) in
    let few = tags.frames_few g.F.Format.layout (laws g).layout in
    let limit = c.self.invariant.lawful.sizes.limit in
    omega arith

pub invariant_of-self-2 : goal.invariant_of-self-2
invariant_of-self-2 g c = (call g (goal.at.invariant_of-self-2 g c).After-set_tag).owner

pub returns-clause-stays : goal.returns-clause-stays
returns-clause-stays g c = record { same_space = refl; same_aside = kept_aside (call g (goal.at.returns-clause-stays g c).After-set_tag) c.self.view_is; still_alone = λ a. a }

pub returns-clause-taken : goal.returns-clause-taken
returns-clause-taken g c = seen (call g (goal.at.returns-clause-taken g c).After-set_tag) c.self.view_is

pub returns-clause-all : goal.returns-clause-all
returns-clause-all g c = λ _. tags.every (laws g) (call g (goal.at.returns-clause-all g c).After-set_tag).owner

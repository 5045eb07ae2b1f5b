use Rattle.std.proofs.Common.{◌≡◌, ℕ, ◌+◌, ◌<◌, List, length, refl, ap, sym, ◌∙◌, subst, arith, take, drop, ◌++◌}
use Rattle.std.specs.Prelude.{slice_set}
use Rattle.pt_view.specs.Calls.{IsPrepared}
use Rattle.pt_rule.specs.Tags.{held_word}
use Rattle.pt_plain.specs.Owner.{Owned}
use Rattle.pt_plain.proofs.Laws.{Laws}
use Rattle.pt_plain.proofs.Owners.{given, kept_aside, seen}
use Rattle.pt_words.proofs.Stored.{stored}
use Rattle.pt_plain.proofs.TagCalls as tags
use Rattle.pt_plain.proofs.holder.PlainHolder.unplace.Given.{Over}
use Rattle.pt_plain.proofs.holder.PlainHolder.unplace.Goals as goal
use Rattle.pt_plain.proofs.holder.PlainHolder.unplace.Goals.{After-set_tag}

laws : (g : Over) → Laws g.F.Format.layout
laws g = let law = g.met.F.Format in record { layout = law.lawful_layout; differ = law.words_differ; agree = law.steps_agree }

pub unreachable-requires : goal.unreachable-requires
unreachable-requires g c =
    let x = given c.self.invariant IsPrepared (subst (λ (x : Owned). IsPrepared x.view) (sym c.self.view_is) c.requires) in
    tags.some_prepared (laws g) c.self.invariant x.0 x.1 c.in_default.is

pub set_tag-requires : goal.set_tag-requires
set_tag-requires g c = subst (λ (ws : List ℕ). 1 + c.in-Some.prepared < length ws) (sym c.deref_mut.ensures.value)
    (tags.tag_there (laws g) c.self.invariant c.in-Some.prepared (tags.prepared_within (laws g) c.self.invariant c.in-Some.prepared c.in-Some.is))

pub overflow_add-self : goal.overflow_add-self
overflow_add-self g c =
    let room = tags.unplace_room (laws g) c.self.invariant c.in-Some.prepared c.in-Some.is in
    let few = tags.frames_few g.F.Format.layout (laws g).layout in
    let limit = c.self.invariant.lawful.sizes.limit in
    omega arith

module _ (g : Over) (c : After-set_tag g) where
  abbrev words' : List ℕ
  words' = take c.self.inside.words.len (c.set_tag.new.words ++ drop (length c.set_tag.new.words) c.self.inside.words.items)

  words_now : words' ≡ slice_set c.self.inside.words.items (1 + c.in-Some.prepared) (held_word c.self.inside.head)
  words_now =
      let o = c.self.inside in
      stored c.set_tag.new.words c.deref_mut.result.now o.words.items o.words.len (1 + c.in-Some.prepared) (held_word o.head)
      (c.set_tag.ensures ∙ ap (slice_set c.deref_mut.result.now (1 + c.in-Some.prepared)) c.held_word.ensures) c.deref_mut.ensures.value o.words.ok.0

  call : tags.Unplaced c.self.invariant c.in-Some.prepared words'
  call = tags.unplaced (laws g) c.self.invariant c.in-Some.prepared c.in-Some.is words' words_now

pub invariant_of-self : goal.invariant_of-self
invariant_of-self g c = (call g (goal.at.invariant_of-self g c).After-set_tag).owner

pub returns-clause-stays : goal.returns-clause-stays
returns-clause-stays g c = record { same_space = refl; same_aside = kept_aside (call g (goal.at.returns-clause-stays g c).After-set_tag) c.self.view_is; still_alone = λ a. a }

pub returns-clause-unplaced : goal.returns-clause-unplaced
returns-clause-unplaced g c = seen (call g (goal.at.returns-clause-unplaced g c).After-set_tag) c.self.view_is

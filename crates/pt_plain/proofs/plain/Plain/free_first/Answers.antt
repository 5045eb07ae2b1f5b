use Rattle.std.proofs.Common.{◌≡◌, ℕ, ◌+◌, ◌^◌, ◌<◌, ◌≤◌, List, length, ap, sym, ◌∙◌, subst, arith, take, drop, ◌++◌}
use Rattle.std.specs.Prelude.{Option, None, slice_set}
use Rattle.pt_model.specs.Words.{tag}
use Rattle.pt_rule.specs.Tags.{IsEnd, first_or, held_word}
use Rattle.pt_plain.specs.Owner.{Owned}
use Rattle.pt_plain.proofs.Laws.{Laws}
use Rattle.pt_plain.proofs.Owners.{kept_aside, seen}
use Rattle.pt_words.proofs.Stored.{stored}
use Rattle.pt_plain.proofs.TagCalls as tags
use Rattle.pt_plain.proofs.plain.Plain.free_first.Given.{Over}
use Rattle.pt_plain.proofs.plain.Plain.free_first.Goals as goal
use Rattle.pt_plain.proofs.plain.Plain.free_first.Goals.{After-deref, After-min-self-inside, After-tag_of, After-set_tag}

laws : (g : Over) → Laws g.F.Format.layout
laws g = let law = g.met.F.Format in record { layout = law.lawful_layout; differ = law.words_differ; agree = law.steps_agree }

pub unreachable-requires : goal.unreachable-requires
unreachable-requires g c = tags.some_head (laws g) c.self.invariant (subst (λ (x : Owned). 0 < length x.view.purse) (sym c.self.view_is) c.requires) c.in_default.is

there : (g : Over) (c : After-deref g) → 1 + c.in-Some.frame < length c.self.inside.words.items
there g c = tags.tag_there (laws g) c.self.invariant c.in-Some.frame (tags.head_within (laws g) c.self.invariant c.in-Some.frame c.in-Some.is)

pub tag_of-requires : goal.tag_of-requires
tag_of-requires g c = subst (λ (ws : List ℕ). 1 + c.in-Some.frame < length ws) (sym c.deref.ensures.value) (there g c)

loaded : (g : Over) (c : After-tag_of g) → c.tag_of.result ≡ tag c.self.inside.words.items c.in-Some.frame
loaded g c = c.tag_of.ensures ∙ ap (λ (ws : List ℕ). tag ws c.in-Some.frame) c.deref.ensures.value

pub next_in-next-requires : goal.next_in-next-requires
next_in-next-requires g c = subst (λ (word : ℕ). (next : Option ℕ) × (word ≡ held_word next) × IsEnd (2 ^ 32) next) (sym (loaded g c))
    (tags.next_named (laws g) c.self.invariant c.in-Some.frame c.in-Some.is)

pub set_tag-requires : goal.set_tag-requires
set_tag-requires g c = subst (λ (ws : List ℕ). 1 + c.in-Some.frame < length ws) (sym c.deref_mut.ensures.value) (there g (goal.at.set_tag-requires g c).After-deref)

module _ (g : Over) (c : After-set_tag g) where
  abbrev words' : List ℕ
  words' = take c.self.inside.words.len (c.set_tag.new.words ++ drop (length c.set_tag.new.words) c.self.inside.words.items)

  words_now : words' ≡ slice_set c.self.inside.words.items (1 + c.in-Some.frame) 0
  words_now =
      let o = c.self.inside in
      stored c.set_tag.new.words c.deref_mut.result.now o.words.items o.words.len (1 + c.in-Some.frame) 0 c.set_tag.ensures c.deref_mut.ensures.value o.words.ok.0

  next_is : first_or None (tags.rest (laws g) c.self.invariant c.in-Some.frame c.in-Some.is) ≡ c.next_in-next.result
  next_is = sym (c.next_in-next.ensures _ (loaded g (goal.at.After-set_tag g c).After-tag_of ∙ tags.tag_is (laws g) c.self.invariant c.in-Some.frame c.in-Some.is))

  call : (number : ℕ) → number ≤ c.self.inside.taken_below → number ≤ c.in-Some.frame → tags.Freed c.self.invariant c.in-Some.frame words' c.next_in-next.result number
  call = tags.freed (laws g) c.self.invariant c.in-Some.frame c.in-Some.is words' c.next_in-next.result words_now next_is

-- no frame below the number is free, and neither is this one below it
module _ (g : Over) (c : After-min-self-inside g) where
  done : tags.Freed c.self.invariant c.in-Some.frame (words' g (goal.at.After-min-self-inside g c).After-set_tag) c.next_in-next.result c.min-self-inside.result
  done = let least = c.min-self-inside.ensures in call g (goal.at.After-min-self-inside g c).After-set_tag c.min-self-inside.result (omega arith) (omega arith)

pub invariant_of-self : goal.invariant_of-self
invariant_of-self g c = (done g (goal.at.invariant_of-self g c).After-min-self-inside).owner

pub returns-clause-freed : goal.returns-clause-freed
returns-clause-freed g c = (c.in-Some.frame, seen (done g (goal.at.returns-clause-freed g c).After-min-self-inside) c.self.view_is)

pub returns-clause-aside : goal.returns-clause-aside
returns-clause-aside g c = kept_aside (done g (goal.at.returns-clause-aside g c).After-min-self-inside) c.self.view_is

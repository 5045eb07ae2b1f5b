use Rattle.std.proofs.Common.{◌≡◌, ℕ, ◌+◌, ◌-◌, ◌^◌, ◌<◌, ◌≤◌, List, length, refl, ap, sym, ◌∙◌, subst, arith, take, drop, ◌++◌}
use Rattle.std.specs.Prelude.{Option, None, slice_set}
use Rattle.std.proofs.Math.Pow.{pow_mono}
use Rattle.pt_model.specs.declared.position.Position.{Position}
use Rattle.pt_model.specs.Layout.{input_pages}
use Rattle.pt_model.specs.Words.{placed_word, tag}
use Rattle.pt_rule.specs.Tags.{IsEnd, first_or, held_word}
use Rattle.pt_plain.specs.Owner.{Owned}
use Rattle.pt_plain.proofs.Laws.{Laws}
use Rattle.pt_plain.proofs.Owners.{kept_aside, seen}
use Rattle.pt_words.proofs.Stored.{stored}
use Rattle.pt_plain.proofs.TagCalls as tags
use Rattle.pt_plain.proofs.holder.PlainHolder.place.Given.{Over}
use Rattle.pt_plain.proofs.holder.PlainHolder.place.Goals as goal
use Rattle.pt_plain.proofs.holder.PlainHolder.place.Goals.{After-deref, After-tag_of, After-set_tag}

laws : (g : Over) → Laws g.F.Format.layout
laws g = let law = g.met.F.Format in record { layout = law.lawful_layout; differ = law.words_differ; agree = law.steps_agree }

pub unreachable-requires : goal.unreachable-requires
unreachable-requires g c = tags.some_head (laws g) c.self.invariant (subst (λ (x : Owned). 0 < length x.view.purse) (sym c.self.view_is) c.requires.some) c.in_default.is

there : (g : Over) (c : After-deref g) → 1 + c.in-Some.frame < length c.self.inside.words.items
there g c = tags.tag_there (laws g) c.self.invariant c.in-Some.frame (tags.head_within (laws g) c.self.invariant c.in-Some.frame c.in-Some.is)

pub tag_of-requires : goal.tag_of-requires
tag_of-requires g c = subst (λ (ws : List ℕ). 1 + c.in-Some.frame < length ws) (sym c.deref.ensures.value) (there g c)

loaded : (g : Over) (c : After-tag_of g) → c.tag_of.result ≡ tag c.self.inside.words.items c.in-Some.frame
loaded g c = c.tag_of.ensures ∙ ap (λ (ws : List ℕ). tag ws c.in-Some.frame) c.deref.ensures.value

pub next_in-next-requires : goal.next_in-next-requires
next_in-next-requires g c = subst (λ (word : ℕ). (next : Option ℕ) × (word ≡ held_word next) × IsEnd (2 ^ 32) next) (sym (loaded g c))
    (tags.next_named (laws g) c.self.invariant c.in-Some.frame c.in-Some.is)

pub placed_word-requires-clause-few : goal.placed_word-requires-clause-few
placed_word-requires-clause-few g c =
    let f = g.F.Format.layout in
    let bits : f.input - f.granule ≤ 52 = (let h = (laws g).layout.pages_high in omega arith) in
    let most : input_pages f ≤ 2 ^ 52 = pow_mono bits in
    let page = c.requires.legal.a_page in
    omega arith

pub set_tag-requires : goal.set_tag-requires
set_tag-requires g c = subst (λ (ws : List ℕ). 1 + c.in-Some.frame < length ws) (sym c.deref_mut.ensures.value) (there g (goal.at.set_tag-requires g c).After-deref)

module _ (g : Over) (c : After-set_tag g) where
  abbrev position : Position
  position = record { level = c.args.level; base = c.args.base }

  abbrev words' : List ℕ
  words' = take c.self.inside.words.len (c.set_tag.new.words ++ drop (length c.set_tag.new.words) c.self.inside.words.items)

  words_now : words' ≡ slice_set c.self.inside.words.items (1 + c.in-Some.frame) (placed_word position)
  words_now =
      let o = c.self.inside in
      stored c.set_tag.new.words c.deref_mut.result.now o.words.items o.words.len (1 + c.in-Some.frame) (placed_word position)
      (c.set_tag.ensures ∙ ap (slice_set c.deref_mut.result.now (1 + c.in-Some.frame)) c.placed_word.ensures) c.deref_mut.ensures.value o.words.ok.0

  next_is : first_or None (tags.rest (laws g) c.self.invariant c.in-Some.frame c.in-Some.is) ≡ c.next_in-next.result
  next_is = sym (c.next_in-next.ensures _ (loaded g (goal.at.After-set_tag g c).After-tag_of ∙ tags.tag_is (laws g) c.self.invariant c.in-Some.frame c.in-Some.is))

  call : tags.Placed c.self.invariant c.in-Some.frame words' c.next_in-next.result position
  call = tags.placed (laws g) c.self.invariant c.in-Some.frame c.in-Some.is (ap (λ (x : Owned). x.view.prepared) c.self.view_is ∙ c.requires.none) position c.requires.legal
      words' c.next_in-next.result words_now next_is

pub invariant_of-self : goal.invariant_of-self
invariant_of-self g c = (call g (goal.at.invariant_of-self g c).After-set_tag).owner

pub returns-clause-stays : goal.returns-clause-stays
returns-clause-stays g c = record { same_space = refl; same_aside = kept_aside (call g (goal.at.returns-clause-stays g c).After-set_tag) c.self.view_is; still_alone = λ a. a }

pub returns-clause-placed : goal.returns-clause-placed
returns-clause-placed g c = seen (call g (goal.at.returns-clause-placed g c).After-set_tag) c.self.view_is

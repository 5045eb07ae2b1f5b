use Rattle.std.proofs.Common.{◌≡◌, ℕ, ◌+◌, List, length, refl, ap, sym, ◌∙◌, subst, arith, take, drop, ◌++◌, length-set}
use Rattle.std.specs.Prelude.{slice_index, slice_set}
use Rattle.pt_model.specs.Words.{entry_place, frame_address, root_word}
use Rattle.pt_view.specs.Calls.{MayGrow}
use Rattle.pt_plain.specs.Owner.{IsOwner, Owned, owned}
use Rattle.pt_plain.proofs.GrowCalls as growth
use Rattle.pt_plain.proofs.Laws.{Laws}
use Rattle.pt_plain.proofs.Owners.{given, kept_aside, seen}
use Rattle.pt_words.proofs.Stored.{stored}
use Rattle.pt_plain.proofs.TagCalls as tags
use Rattle.pt_plain.proofs.holder.PlainHolder.grow.Given.{Over}
use Rattle.pt_plain.proofs.holder.PlainHolder.grow.Goals as goal
use Rattle.pt_plain.proofs.holder.PlainHolder.grow.Goals.{After-set_root}

laws : (g : Over) → Laws g.F.Format.layout
laws g = let law = g.met.F.Format in record { layout = law.lawful_layout; differ = law.words_differ; agree = law.steps_agree }

may : (g : Over) {inside : _} (own : IsOwner g.F.Format.layout inside) {old : Owned} → owned g.F.Format.layout inside ≡ old → MayGrow old.view → growth.Asks own
may g own is asked = subst (λ (x : Owned). MayGrow x.view) (sym is) asked

pub unreachable-requires : goal.unreachable-requires
unreachable-requires g c =
    let asked = given c.self.invariant MayGrow (may g c.self.invariant c.self.view_is c.requires) in
    tags.some_prepared (laws g) c.self.invariant _ asked.prepared c.in_default.is

pub frame_address-requires : goal.frame_address-requires
frame_address-requires g c =
    let lt = growth.root_within (laws g) c.self.invariant (may g c.self.invariant c.self.view_is c.requires) in
    let limit = c.self.invariant.lawful.sizes.limit in
    omega arith

pub table_word-bridge-requires-clause-above : goal.table_word-bridge-requires-clause-above
table_word-bridge-requires-clause-above g c = growth.table_level (laws g) c.self.invariant (may g c.self.invariant c.self.view_is c.requires)

pub set_entry-requires-clause-a_frame : goal.set_entry-requires-clause-a_frame
set_entry-requires-clause-a_frame g c = tags.prepared_within (laws g) c.self.invariant c.in-Some.frame c.in-Some.is

module _ (g : Over) (c : After-set_root g) where
  abbrev bridged : List ℕ
  bridged = take c.self.inside.words.len (c.set_entry.new.words ++ drop (length c.set_entry.new.words) c.self.inside.words.items)

  abbrev bridge_place : ℕ
  bridge_place = entry_place g.F.Format.layout c.self.inside.frames c.in-Some.frame 0

  abbrev bridge : ℕ
  bridge = g.F.Format.layout.pointer (c.self.inside.level + 1) (frame_address g.F.Format.layout (slice_index c.self.inside.path c.self.inside.level))

  bridged_now : bridged ≡ slice_set c.self.inside.words.items bridge_place bridge
  bridged_now =
      let o = c.self.inside in
      let pointer : c.table_word-bridge.result ≡ bridge = c.table_word-bridge.ensures ∙ ap (g.F.Format.layout.pointer (o.level + 1)) c.frame_address.ensures.address in
      stored c.set_entry.new.words c.deref_mut.result.now o.words.items o.words.len bridge_place bridge
      (c.set_entry.ensures ∙ ap (slice_set c.deref_mut.result.now bridge_place) pointer) c.deref_mut.ensures.value o.words.ok.0

  abbrev words' : List ℕ
  words' = take c.self.inside.words.len (c.set_root.new.words ++ drop (length c.set_root.new.words) bridged)

  words_now : words' ≡ slice_set (slice_set c.self.inside.words.items bridge_place bridge) 0 (root_word c.in-Some.frame (c.self.inside.level + 1))
  words_now =
      let o = c.self.inside in
      let word : ℕ = root_word c.in-Some.frame (o.level + 1) in
      let long : length bridged ≡ length o.words.items = ap (λ (ws : List ℕ). length ws) bridged_now ∙ length-set o.words.items bridge_place bridge in
      stored c.set_root.new.words c.deref_mut-2.result.now bridged o.words.len 0 word c.set_root.ensures c.deref_mut-2.ensures.value (o.words.ok.0 ∙ sym long)
      ∙ ap (λ (ws : List ℕ). slice_set ws 0 word) bridged_now

  call : growth.Raised c.self.invariant c.in-Some.frame words'
  call = growth.raised (laws g) c.self.invariant (may g c.self.invariant c.self.view_is c.requires) c.in-Some.frame c.in-Some.is words' words_now

pub invariant_of-self : goal.invariant_of-self
invariant_of-self g c = (call g (goal.at.invariant_of-self g c).After-set_root).owner

pub returns-clause-stays : goal.returns-clause-stays
returns-clause-stays g c = record { same_space = refl; same_aside = kept_aside (call g (goal.at.returns-clause-stays g c).After-set_root) c.self.view_is; still_alone = λ a. a }

pub returns-clause-grown : goal.returns-clause-grown
returns-clause-grown g c = seen (call g (goal.at.returns-clause-grown g c).After-set_root) c.self.view_is

use Rattle.std.proofs.Common.{◌≡◌, ℕ, ◌+◌, ◌<◌, List, length, refl, ap, sym, ◌∙◌, subst, arith, take, drop, ◌++◌, length-set}
use Rattle.std.specs.Prelude.{slice_index, slice_set}
use Rattle.pt_model.specs.Words.{entry_of, entry_place, frame_address, frame_named}
use Rattle.pt_format.specs.Words.{IsPointer, IsTableAddress}
use Rattle.pt_view.specs.Calls.{MayUnlink, UnlinkFinds}
use Rattle.pt_rule.specs.Tags.{held_word}
use Rattle.pt_plain.specs.Owner.{Owned}
use Rattle.pt_plain.proofs.Laws.{Laws}
use Rattle.pt_plain.proofs.Owners.{kept_aside, seen}
use Rattle.pt_words.proofs.Stored.{stored}
use Rattle.pt_plain.proofs.TagCalls as tags
use Rattle.pt_plain.proofs.UnlinkCalls as unlinks
use Rattle.pt_plain.proofs.holder.PlainHolder.unlink.Given.{Over}
use Rattle.pt_plain.proofs.holder.PlainHolder.unlink.Goals as goal
use Rattle.pt_plain.proofs.holder.PlainHolder.unlink.Goals.{After-deref, After-entry-linked, After-frame_named-child, After-set_entry, After-set_tag}

laws : (g : Over) → Laws g.F.Format.layout
laws g = let law = g.met.F.Format in record { layout = law.lawful_layout; differ = law.words_differ; agree = law.steps_agree }

may : (g : Over) (c : After-deref g) → unlinks.Asks c.self.invariant c.args.number
may g c = subst (λ (x : Owned). MayUnlink g.F.Format.layout x.view c.args.number) (sym c.self.view_is) c.requires

pub entry-linked-requires-clause-a_frame : goal.entry-linked-requires-clause-a_frame
entry-linked-requires-clause-a_frame g c = unlinks.within (laws g) c.self.invariant c.args.number (may g c)

-- What the load found.
module _ (g : Over) (c : After-entry-linked g) where
  abbrev start : After-deref g
  start = (goal.at.After-entry-linked g c).After-deref

  loaded : c.entry-linked.result ≡ (let o = c.self.inside in entry_of g.F.Format.layout o.frames o.words.items (slice_index o.path o.level) c.args.number)
  loaded = c.entry-linked.ensures ∙ ap (λ (ws : List ℕ). let o = c.self.inside in entry_of g.F.Format.layout o.frames ws (slice_index o.path o.level) c.args.number) c.deref.ensures.value

  abbrev child : ℕ
  child = unlinks.child (laws g) c.self.invariant c.args.number (may g start)

  pointer : IsPointer g.F.Format.layout c.self.inside.level c.entry-linked.result (frame_address g.F.Format.layout child)
  pointer = subst (λ (x : ℕ). IsPointer g.F.Format.layout c.self.inside.level x (frame_address g.F.Format.layout child)) (sym loaded)
      (unlinks.pointer (laws g) c.self.invariant c.args.number (may g start))

pub address_of-requires : goal.address_of-requires
address_of-requires g c = record { a_pointer = (frame_address g.F.Format.layout (child g c), pointer g c) }

pub frame_named-child-requires : goal.frame_named-child-requires
frame_named-child-requires g c =
    let e = (goal.at.frame_named-child-requires g c).After-entry-linked in
    subst (IsTableAddress g.F.Format.layout) (sym (c.address_of.ensures (frame_address g.F.Format.layout (child g e)) (pointer g e))) (pointer g e).a_frame

-- The frame that is taken out.
module _ (g : Over) (c : After-frame_named-child g) where
  abbrev found_it : After-entry-linked g
  found_it = (goal.at.After-frame_named-child g c).After-entry-linked

  abbrev asked : unlinks.Asks c.self.invariant c.args.number
  asked = may g (start g found_it)

  child_is : c.frame_named-child.result ≡ child g found_it
  child_is = c.frame_named-child.ensures ∙ ap (frame_named g.F.Format.layout) (c.address_of.ensures (frame_address g.F.Format.layout (child g found_it)) (pointer g found_it))
      ∙ unlinks.child_is (laws g) c.self.invariant c.args.number asked

  child_within : c.frame_named-child.result < c.self.inside.frames
  child_within = subst (λ (k : ℕ). k < c.self.inside.frames) (sym child_is) (unlinks.child_within (laws g) c.self.invariant c.args.number asked)

pub set_entry-requires-clause-a_frame : goal.set_entry-requires-clause-a_frame
set_entry-requires-clause-a_frame g c = unlinks.within (laws g) c.self.invariant c.args.number (asked g (goal.at.set_entry-requires-clause-a_frame g c).After-frame_named-child)

-- The words after the store of zero.
module _ (g : Over) (c : After-set_entry g) where
  abbrev named : After-frame_named-child g
  named = (goal.at.After-set_entry g c).After-frame_named-child

  abbrev cut_place : ℕ
  cut_place = let o = c.self.inside in entry_place g.F.Format.layout o.frames (slice_index o.path o.level) c.args.number

  abbrev cut_words : List ℕ
  cut_words = take c.self.inside.words.len (c.set_entry.new.words ++ drop (length c.set_entry.new.words) c.self.inside.words.items)

  cut_now : cut_words ≡ slice_set c.self.inside.words.items cut_place 0
  cut_now =
      let o = c.self.inside in
      stored c.set_entry.new.words c.deref_mut.result.now o.words.items o.words.len cut_place 0 c.set_entry.ensures c.deref_mut.ensures.value o.words.ok.0

  cut_long : length cut_words ≡ length c.self.inside.words.items
  cut_long = ap (λ (ws : List ℕ). length ws) cut_now ∙ length-set c.self.inside.words.items cut_place 0

pub set_tag-requires : goal.set_tag-requires
set_tag-requires g c =
    let e = (goal.at.set_tag-requires g c).After-set_entry in
    let there = tags.tag_there (laws g) c.self.invariant c.frame_named-child.result (child_within g (named g e)) in
    let long = cut_long g e in
    subst (λ (ws : List ℕ). 1 + c.frame_named-child.result < length ws) (sym c.deref_mut-2.ensures.value) (omega arith)

pub overflow_add-self : goal.overflow_add-self
overflow_add-self g c =
    let room = unlinks.room (laws g) c.self.invariant c.args.number (asked g (goal.at.overflow_add-self g c).After-frame_named-child) in
    let few = tags.frames_few g.F.Format.layout (laws g).layout in
    let limit = c.self.invariant.lawful.sizes.limit in
    omega arith

module _ (g : Over) (c : After-set_tag g) where
  abbrev cut_case : After-set_entry g
  cut_case = (goal.at.After-set_tag g c).After-set_entry

  abbrev words' : List ℕ
  words' = take c.self.inside.words.len (c.set_tag.new.words ++ drop (length c.set_tag.new.words) (cut_words g cut_case))

  words_now : words' ≡ slice_set (slice_set c.self.inside.words.items (cut_place g cut_case) 0) (1 + c.frame_named-child.result) (held_word c.self.inside.head)
  words_now =
      let o = c.self.inside in
      let place = 1 + c.frame_named-child.result in
      stored c.set_tag.new.words c.deref_mut-2.result.now (cut_words g cut_case) o.words.len place (held_word o.head)
      (c.set_tag.ensures ∙ ap (slice_set c.deref_mut-2.result.now place) c.held_word.ensures) c.deref_mut-2.ensures.value (o.words.ok.0 ∙ sym (cut_long g cut_case))
      ∙ ap (λ (ws : List ℕ). slice_set ws place (held_word o.head)) (cut_now g cut_case)

  call : unlinks.Unlinked c.self.invariant c.args.number c.frame_named-child.result words'
  call = unlinks.unlinked (laws g) c.self.invariant c.args.number (asked g (named g cut_case)) c.frame_named-child.result (child_is g (named g cut_case)) words' words_now

pub invariant_of-self : goal.invariant_of-self
invariant_of-self g c = (call g (goal.at.invariant_of-self g c).After-set_tag).owner

pub returns-clause-stays : goal.returns-clause-stays
returns-clause-stays g c = record { same_space = refl; same_aside = kept_aside (call g (goal.at.returns-clause-stays g c).After-set_tag) c.self.view_is; still_alone = λ a. a }

pub returns-clause-unlinked : goal.returns-clause-unlinked
returns-clause-unlinked g c = seen (call g (goal.at.returns-clause-unlinked g c).After-set_tag) c.self.view_is

pub returns-clause-found : goal.returns-clause-found
returns-clause-found g c =
    let named = (goal.at.returns-clause-found g c).After-frame_named-child in
    subst (λ (x : Owned). UnlinkFinds g.F.Format.layout (Unit {0}) c.args.number x.view) c.self.view_is
    (unlinks.finds (laws g) c.self.invariant c.args.number (asked g named))

use Rattle.std.proofs.Common.{◌≡◌, ◌≢◌, ℕ, ◌≤◌, List, length, refl, ap, sym, ◌∙◌, subst, arith, take, drop, ◌++◌}
use Rattle.std.specs.Prelude.{slice_index, slice_set}
use Rattle.pt_model.specs.Words.{entry_of, entry_place, frame_address, frame_named}
use Rattle.pt_format.specs.Words.{IsPointer, IsTableAddress}
use Rattle.pt_view.specs.declared.holder.Won.TheVariants.{Yes, Met}
use Rattle.pt_view.specs.Calls.{InstallFinds, MayInstall}
use Rattle.pt_plain.specs.Owner.{Owned}
use Rattle.pt_plain.proofs.EntryCalls as entry
use Rattle.pt_plain.proofs.Laws.{Laws}
use Rattle.pt_plain.proofs.Owners.{given, kept_aside, seen}
use Rattle.pt_words.proofs.Stored.{stored}
use Rattle.pt_plain.proofs.TagCalls as tags
use Rattle.pt_plain.proofs.holder.PlainHolder.install.Given.{Over}
use Rattle.pt_plain.proofs.holder.PlainHolder.install.Goals as goal
use Rattle.pt_plain.proofs.holder.PlainHolder.install.Goals.{After-deref, Then-found-ne0, After-frame_named, In-Some, After-set_entry}

laws : (g : Over) → Laws g.F.Format.layout
laws g = let law = g.met.F.Format in record { layout = law.lawful_layout; differ = law.words_differ; agree = law.steps_agree }

-- Before the entry is known.

may : (g : Over) (c : After-deref g) → entry.MayLink c.self.invariant c.args.number
may g c = subst (λ (x : Owned). MayInstall g.F.Format.layout x.view c.args.number) (sym c.self.view_is) c.requires

above : (g : Over) (c : After-deref g) → 1 ≤ c.self.inside.level
above g c = let high = entry.high (laws g) c.self.invariant c.args.number (may g c) in omega arith

pub entry-found-requires-clause-a_frame : goal.entry-found-requires-clause-a_frame
entry-found-requires-clause-a_frame g c = entry.install_within (laws g) c.self.invariant c.args.number (may g c)

-- Another table is linked there.
module _ (g : Over) (c : Then-found-ne0 g) where
  abbrev met_start : After-deref g
  met_start = (goal.at.Then-found-ne0 g c).After-deref

  met_word : c.entry-found.result ≡ entry.word_at c.self.invariant c.args.number
  met_word = c.entry-found.ensures ∙ ap (λ (ws : List ℕ). let o = c.self.inside in entry_of g.F.Format.layout o.frames ws (slice_index o.path o.level) c.args.number) c.deref.ensures.value

  nonzero : entry.word_at c.self.invariant c.args.number ≢ 0
  nonzero z = c.if-found-ne0.true (met_word ∙ z)

  pointer : (address : ℕ) × IsPointer g.F.Format.layout c.self.inside.level (entry.word_at c.self.invariant c.args.number) address
  pointer = entry.met_pointer (laws g) c.self.invariant c.args.number (may g met_start) nonzero

  named : IsPointer g.F.Format.layout c.self.inside.level c.entry-found.result pointer.0
  named = subst (λ (x : ℕ). IsPointer g.F.Format.layout c.self.inside.level x pointer.0) (sym met_word) pointer.1

pub address_of-requires : goal.address_of-requires
address_of-requires g c = record { a_pointer = ((pointer g c).0, named g c) }

pub frame_named-requires : goal.frame_named-requires
frame_named-requires g c =
    let t = (goal.at.frame_named-requires g c).Then-found-ne0 in
    subst (IsTableAddress g.F.Format.layout) (sym (c.address_of.ensures (pointer g t).0 (named g t))) (named g t).a_frame

pub overflow_sub-self : goal.overflow_sub-self
overflow_sub-self g c = above g (goal.at.overflow_sub-self g c).After-deref

pub overflow_sub-self-then-found-ne0 : goal.overflow_sub-self-then-found-ne0
overflow_sub-self-then-found-ne0 g c = above g (goal.at.overflow_sub-self-then-found-ne0 g c).After-deref

module _ (g : Over) (c : After-frame_named g) where
  abbrev met_case : Then-found-ne0 g
  met_case = (goal.at.After-frame_named g c).Then-found-ne0

  meets : entry.Meets c.self.invariant c.args.number c.frame_named.result
  meets = entry.met (laws g) c.self.invariant c.args.number (may g (met_start g met_case)) (nonzero g met_case) (pointer g met_case).0 c.frame_named.result (pointer g met_case).1
      (sym (c.frame_named.ensures ∙ ap (frame_named g.F.Format.layout) (c.address_of.ensures (pointer g met_case).0 (named g met_case))))

pub invariant_of-self : goal.invariant_of-self
invariant_of-self g c = (meets g (goal.at.invariant_of-self g c).After-frame_named).owner

pub returns-then-found-ne0-clause-stays : goal.returns-then-found-ne0-clause-stays
returns-then-found-ne0-clause-stays g c = record { same_space = refl; same_aside = kept_aside (meets g (goal.at.returns-then-found-ne0-clause-stays g c).After-frame_named) c.self.view_is; still_alone = λ a. a }

pub returns-then-found-ne0-clause-installed : goal.returns-then-found-ne0-clause-installed
returns-then-found-ne0-clause-installed g c = seen (meets g (goal.at.returns-then-found-ne0-clause-installed g c).After-frame_named) c.self.view_is

pub returns-then-found-ne0-clause-found : goal.returns-then-found-ne0-clause-found
returns-then-found-ne0-clause-found g e =
    let c = (goal.at.returns-then-found-ne0-clause-found g e).After-frame_named in
    let m = met_case g c in
    subst (λ (x : Owned). InstallFinds g.F.Format.layout (Unit {0}) c.args.number x.view Met) c.self.view_is
    (entry.met_finds (laws g) c.self.invariant c.args.number (may g (met_start g m)) (nonzero g m))

-- The prepared frame is linked there.

pub unreachable-requires : goal.unreachable-requires
unreachable-requires g c =
    let asked = given c.self.invariant (λ v. MayInstall g.F.Format.layout v c.args.number) (may g (goal.at.unreachable-requires g c).After-deref) in
    tags.some_prepared (laws g) c.self.invariant _ asked.prepared c.in_default.is

module _ (g : Over) (c : In-Some g) where
  abbrev start : After-deref g
  start = (goal.at.In-Some g c).After-deref

  empty : entry.word_at c.self.invariant c.args.number ≡ 0
  empty =
      sym (c.entry-found.ensures ∙ ap (λ (ws : List ℕ). let o = c.self.inside in entry_of g.F.Format.layout o.frames ws (slice_index o.path o.level) c.args.number) c.deref.ensures.value)
      ∙ c.if-found-ne0.false

pub frame_address-requires : goal.frame_address-requires
frame_address-requires g c =
    let lt = tags.prepared_within (laws g) c.self.invariant c.in-Some.frame c.in-Some.is in
    let limit = c.self.invariant.lawful.sizes.limit in
    omega arith

pub table_word-word-requires-clause-above : goal.table_word-word-requires-clause-above
table_word-word-requires-clause-above g c =
    entry.table_level (laws g) c.self.invariant c.args.number (may g (goal.at.table_word-word-requires-clause-above g c).After-deref)

pub set_entry-requires-clause-a_frame : goal.set_entry-requires-clause-a_frame
set_entry-requires-clause-a_frame g c =
    entry.install_within (laws g) c.self.invariant c.args.number (may g (goal.at.set_entry-requires-clause-a_frame g c).After-deref)

pub overflow_sub-self-2 : goal.overflow_sub-self-2
overflow_sub-self-2 g c = above g (goal.at.overflow_sub-self-2 g c).After-deref

pub overflow_sub-self-3 : goal.overflow_sub-self-3
overflow_sub-self-3 g c = above g (goal.at.overflow_sub-self-3 g c).After-deref

module _ (g : Over) (c : After-set_entry g) where
  abbrev won_case : In-Some g
  won_case = (goal.at.After-set_entry g c).In-Some

  abbrev words' : List ℕ
  words' = take c.self.inside.words.len (c.set_entry.new.words ++ drop (length c.set_entry.new.words) c.self.inside.words.items)

  words_now : words' ≡ (let o = c.self.inside in let f = g.F.Format.layout in slice_set o.words.items (entry_place f o.frames (slice_index o.path o.level) c.args.number) (f.pointer o.level (frame_address f c.in-Some.frame)))
  words_now =
      let o = c.self.inside in
      let f = g.F.Format.layout in
      let place = entry_place f o.frames (slice_index o.path o.level) c.args.number in
      let pointer : c.table_word-word.result ≡ f.pointer o.level (frame_address f c.in-Some.frame) = c.table_word-word.ensures ∙ ap (f.pointer o.level) c.frame_address.ensures.address in
      stored c.set_entry.new.words c.deref_mut.result.now o.words.items o.words.len place (f.pointer o.level (frame_address f c.in-Some.frame))
      (c.set_entry.ensures ∙ ap (slice_set c.deref_mut.result.now place) pointer) c.deref_mut.ensures.value o.words.ok.0

  call : entry.Links c.self.invariant c.args.number c.in-Some.frame words'
  call = entry.won (laws g) c.self.invariant c.args.number (may g (start g won_case)) (empty g won_case) c.in-Some.frame c.in-Some.is words' words_now

pub invariant_of-self-2 : goal.invariant_of-self-2
invariant_of-self-2 g c = (call g (goal.at.invariant_of-self-2 g c).After-set_entry).owner

pub returns-clause-stays : goal.returns-clause-stays
returns-clause-stays g c = record { same_space = refl; same_aside = kept_aside (call g (goal.at.returns-clause-stays g c).After-set_entry) c.self.view_is; still_alone = λ a. a }

pub returns-clause-installed : goal.returns-clause-installed
returns-clause-installed g c = seen (call g (goal.at.returns-clause-installed g c).After-set_entry) c.self.view_is

pub returns-clause-found : goal.returns-clause-found
returns-clause-found g e =
    let c = (goal.at.returns-clause-found g e).After-set_entry in
    subst (λ (x : Owned). InstallFinds g.F.Format.layout (Unit {0}) c.args.number x.view Yes) c.self.view_is
    (entry.won_finds (laws g) c.self.invariant c.args.number (may g (start g (won_case g c))) (empty g (won_case g c)))

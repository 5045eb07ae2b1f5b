use Rattle.std.proofs.Common.{◌≡◌, ℕ, List, length, refl, sym, subst, take, drop, ◌++◌}
use Rattle.std.specs.Prelude.{slice_index, slice_set}
use Rattle.pt_model.specs.Words.{entry_place}
use Rattle.pt_view.specs.Calls.{MayWrite}
use Rattle.pt_plain.specs.Owner.{Owned}
use Rattle.pt_plain.proofs.EntryCalls as entry
use Rattle.pt_plain.proofs.Laws.{Laws}
use Rattle.pt_plain.proofs.Owners.{kept_aside, seen}
use Rattle.pt_words.proofs.Stored.{stored}
use Rattle.pt_plain.proofs.holder.PlainHolder.write.Given.{Over}
use Rattle.pt_plain.proofs.holder.PlainHolder.write.Goals as goal
use Rattle.pt_plain.proofs.holder.PlainHolder.write.Goals.{After-deref_mut, After-set_entry}

laws : (g : Over) → Laws g.F.Format.layout
laws g = let law = g.met.F.Format in record { layout = law.lawful_layout; differ = law.words_differ; agree = law.steps_agree }

pub set_entry-requires-clause-a_frame : goal.set_entry-requires-clause-a_frame
set_entry-requires-clause-a_frame g c =
    let may = subst (λ (x : Owned). MayWrite g.F.Format.layout x.view c.args.number c.args.word) (sym c.self.view_is) c.requires in
    entry.write_within (laws g) c.self.invariant c.args.number may.0 may.2

module _ (g : Over) (c : After-set_entry g) where
  abbrev words' : List ℕ
  words' = take c.self.inside.words.len (c.set_entry.new.words ++ drop (length c.set_entry.new.words) c.self.inside.words.items)

  words_now : words' ≡ (let o = c.self.inside in slice_set o.words.items (entry_place g.F.Format.layout o.frames (slice_index o.path o.level) c.args.number) c.args.word)
  words_now =
      let o = c.self.inside in
      stored c.set_entry.new.words c.deref_mut.result.now o.words.items o.words.len (entry_place g.F.Format.layout o.frames (slice_index o.path o.level) c.args.number) c.args.word
      c.set_entry.ensures c.deref_mut.ensures.value o.words.ok.0

  call : entry.Writes c.self.invariant c.args.number c.args.word words'
  call = entry.wrote_word (laws g) c.self.invariant c.args.number (subst (λ (x : Owned). MayWrite g.F.Format.layout x.view c.args.number c.args.word) (sym c.self.view_is) c.requires) words' words_now

pub invariant_of-self : goal.invariant_of-self
invariant_of-self g c = (call g (goal.at.invariant_of-self g c).After-set_entry).owner

pub returns-clause-stays : goal.returns-clause-stays
returns-clause-stays g c = record { same_space = refl; same_aside = kept_aside (call g (goal.at.returns-clause-stays g c).After-set_entry) c.self.view_is; still_alone = λ a. a }

pub returns-clause-written : goal.returns-clause-written
returns-clause-written g c = (seen (call g (goal.at.returns-clause-written g c).After-set_entry) c.self.view_is).0

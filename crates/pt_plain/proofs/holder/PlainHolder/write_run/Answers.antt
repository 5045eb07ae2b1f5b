use Rattle.std.proofs.Common.{◌≡◌, ℕ, List, length, refl, ap, sym, ◌∙◌, subst, take, drop, ◌++◌}
use Rattle.std.specs.Prelude.{slice_index}
use Rattle.pt_model.specs.Words.{entry_place}
use Rattle.pt_view.specs.Calls.{MayWriteRun}
use Rattle.pt_plain.specs.Owner.{Owned, set_run}
use Rattle.pt_plain.proofs.Laws.{Laws}
use Rattle.pt_plain.proofs.Owners.{kept_aside, seen}
use Rattle.pt_plain.proofs.RunCalls as runs
use Rattle.pt_words.proofs.Stored.{written_back}
use Rattle.pt_plain.proofs.holder.PlainHolder.write_run.Given.{Over}
use Rattle.pt_plain.proofs.holder.PlainHolder.write_run.Goals as goal
use Rattle.pt_plain.proofs.holder.PlainHolder.write_run.Goals.{After-deref_mut, After-set_run}

laws : (g : Over) → Laws g.F.Format.layout
laws g = let law = g.met.F.Format in record { layout = law.lawful_layout; differ = law.words_differ; agree = law.steps_agree }

may : (g : Over) (c : After-deref_mut g) → runs.MayRun c.self.invariant c.args.first c.args.count c.args.word c.args.step
may g c = subst (λ (x : Owned). MayWriteRun g.F.Format.layout x.view c.args.first c.args.count c.args.word c.args.step) (sym c.self.view_is) c.requires

pub set_run-requires-clause-a_frame : goal.set_run-requires-clause-a_frame
set_run-requires-clause-a_frame g c = runs.run_within (laws g) c.self.invariant (may g c)

pub set_run-requires-clause-inside : goal.set_run-requires-clause-inside
set_run-requires-clause-inside g c = runs.run_inside (laws g) c.self.invariant (may g c)

module _ (g : Over) (c : After-set_run g) where
  abbrev words' : List ℕ
  words' = take c.self.inside.words.len (c.set_run.new.words ++ drop (length c.set_run.new.words) c.self.inside.words.items)

  words_now : words' ≡ (let o = c.self.inside in set_run o.words.items (entry_place g.F.Format.layout o.frames (slice_index o.path o.level) c.args.first) c.args.count c.args.word c.args.step)
  words_now =
      let o = c.self.inside in
      let place = entry_place g.F.Format.layout o.frames (slice_index o.path o.level) c.args.first in
      let is : c.set_run.new.words ≡ set_run o.words.items place c.args.count c.args.word c.args.step =
      c.set_run.ensures ∙ ap (λ (ws : List ℕ). set_run ws place c.args.count c.args.word c.args.step) c.deref_mut.ensures.value in
      written_back c.set_run.new.words o.words.items o.words.len
      (ap (λ (ws : List ℕ). length ws) is ∙ runs.run_length o.words.items place c.args.count c.args.word c.args.step) o.words.ok.0 ∙ is

  call : runs.Runs c.self.invariant c.args.first c.args.count c.args.word c.args.step words'
  call = runs.ran (laws g) c.self.invariant (may g (goal.at.After-set_run g c).After-deref_mut) words' words_now

pub invariant_of-self : goal.invariant_of-self
invariant_of-self g c = (call g (goal.at.invariant_of-self g c).After-set_run).owner

pub returns-clause-stays : goal.returns-clause-stays
returns-clause-stays g c = record { same_space = refl; same_aside = kept_aside (call g (goal.at.returns-clause-stays g c).After-set_run) c.self.view_is; still_alone = λ a. a }

pub returns-clause-written : goal.returns-clause-written
returns-clause-written g c = seen (call g (goal.at.returns-clause-written g c).After-set_run) c.self.view_is

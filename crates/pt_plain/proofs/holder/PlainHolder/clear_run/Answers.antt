use Rattle.std.proofs.Common.{◌≡◌, ℕ, List, length, refl, ap, sym, ◌∙◌, subst, take, drop, ◌++◌}
use Rattle.std.specs.Prelude.{slice_index}
use Rattle.pt_model.specs.Words.{entry_place}
use Rattle.pt_view.specs.Runs.{MayClearRun}
use Rattle.pt_plain.specs.Owner.{Owned, nonzero_in, set_run}
use Rattle.pt_plain.proofs.ClearRunCalls as clears
use Rattle.pt_plain.proofs.Laws.{Laws}
use Rattle.pt_plain.proofs.Owners.{kept_aside, seen}
use Rattle.pt_plain.proofs.RunCalls.{run_length}
use Rattle.pt_words.proofs.Stored.{written_back}
use Rattle.pt_plain.proofs.holder.PlainHolder.clear_run.Given.{Over}
use Rattle.pt_plain.proofs.holder.PlainHolder.clear_run.Goals as goal
use Rattle.pt_plain.proofs.holder.PlainHolder.clear_run.Goals.{After-deref_mut, After-zero_run}

laws : (g : Over) → Laws g.F.Format.layout
laws g = let law = g.met.F.Format in record { layout = law.lawful_layout; differ = law.words_differ; agree = law.steps_agree }

may : (g : Over) (c : After-deref_mut g) → clears.Asks c.self.invariant c.args.first c.args.count
may g c = subst (λ (x : Owned). MayClearRun g.F.Format.layout x.view c.args.first c.args.count) (sym c.self.view_is) c.requires

pub zero_run-requires-clause-a_frame : goal.zero_run-requires-clause-a_frame
zero_run-requires-clause-a_frame g c = clears.run_within (laws g) c.self.invariant (may g c)

pub zero_run-requires-clause-inside : goal.zero_run-requires-clause-inside
zero_run-requires-clause-inside g c = clears.run_inside (laws g) c.self.invariant (may g c)

module _ (g : Over) (c : After-zero_run g) where
  abbrev words' : List ℕ
  words' = take c.self.inside.words.len (c.zero_run.new.words ++ drop (length c.zero_run.new.words) c.self.inside.words.items)

  abbrev place : ℕ
  place = let o = c.self.inside in entry_place g.F.Format.layout o.frames (slice_index o.path o.level) c.args.first

  words_now : words' ≡ set_run c.self.inside.words.items place c.args.count 0 0
  words_now =
      let o = c.self.inside in
      let is : c.zero_run.new.words ≡ set_run o.words.items place c.args.count 0 0 =
      c.zero_run.ensures.set ∙ ap (λ (ws : List ℕ). set_run ws place c.args.count 0 0) c.deref_mut.ensures.value in
      written_back c.zero_run.new.words o.words.items o.words.len (ap (λ (ws : List ℕ). length ws) is ∙ run_length o.words.items place c.args.count 0 0) o.words.ok.0 ∙ is

  number_now : c.zero_run.result ≡ nonzero_in c.self.inside.words.items place c.args.count
  number_now = c.zero_run.ensures.number ∙ ap (λ (ws : List ℕ). nonzero_in ws place c.args.count) c.deref_mut.ensures.value

  call : clears.Clears c.self.invariant c.args.first c.args.count c.zero_run.result words'
  call = clears.cleared (laws g) c.self.invariant (may g (goal.at.After-zero_run g c).After-deref_mut) words' c.zero_run.result words_now number_now

pub invariant_of-self : goal.invariant_of-self
invariant_of-self g c = (call g (goal.at.invariant_of-self g c).After-zero_run).owner

pub returns-clause-stays : goal.returns-clause-stays
returns-clause-stays g c = record { same_space = refl; same_aside = kept_aside (call g (goal.at.returns-clause-stays g c).After-zero_run) c.self.view_is; still_alone = λ a. a }

pub returns-clause-cleared : goal.returns-clause-cleared
returns-clause-cleared g c = seen (call g (goal.at.returns-clause-cleared g c).After-zero_run) c.self.view_is

use Rattle.std.proofs.Common.{ℕ, List, sym, subst}
use Rattle.std.specs.Prelude.{IsTrue, slice_index}
use Rattle.pt_model.specs.Words.{entry_place}
use Rattle.pt_view.specs.Runs.{LooksAtRun, MeetsRun}
use Rattle.pt_plain.specs.Owner.{IsZeroRun, Owned}
use Rattle.pt_plain.proofs.Laws.{Laws}
use Rattle.pt_plain.proofs.RunLooks as looks
use Rattle.pt_plain.proofs.holder.PlainHolder.empty_run.Given.{Over}
use Rattle.pt_plain.proofs.holder.PlainHolder.empty_run.Goals as goal
use Rattle.pt_plain.proofs.holder.PlainHolder.empty_run.Goals.{After-deref}

laws : (g : Over) → Laws g.F.Format.layout
laws g = let law = g.met.F.Format in record { layout = law.lawful_layout; differ = law.words_differ; agree = law.steps_agree }

may : (g : Over) (c : After-deref g) → looks.MayLook c.self.invariant c.args.first c.args.count
may g c = subst (λ (x : Owned). MeetsRun g.F.Format.layout x.view c.args.first c.args.count) (sym c.self.view_is) c.requires

pub is_zero_run-requires-clause-a_frame : goal.is_zero_run-requires-clause-a_frame
is_zero_run-requires-clause-a_frame g c = looks.run_within (laws g) c.self.invariant (may g c)

pub is_zero_run-requires-clause-inside : goal.is_zero_run-requires-clause-inside
is_zero_run-requires-clause-inside g c = looks.run_inside (laws g) c.self.invariant (may g c)

pub returns-clause-looks : goal.returns-clause-looks
returns-clause-looks g c =
    let f = g.F.Format.layout in
    let o = c.self.inside in
    let zeros : IsTrue c.is_zero_run.result → IsZeroRun o.words.items (entry_place f o.frames (slice_index o.path o.level) c.args.first) c.args.count =
    (λ yes. subst (λ (ws : List ℕ). IsZeroRun ws (entry_place f o.frames (slice_index o.path o.level) c.args.first) c.args.count) c.deref.ensures.value (c.is_zero_run.ensures yes)) in
    subst (λ (x : Owned). LooksAtRun f ⊥ c.args.first c.args.count x.view c.is_zero_run.result x.view) c.self.view_is
    (looks.looks (laws g) c.self.invariant (may g (goal.at.returns-clause-looks g c).After-deref) c.is_zero_run.result zeros)

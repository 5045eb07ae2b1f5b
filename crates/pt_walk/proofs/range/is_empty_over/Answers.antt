use Rattle.std.proofs.Common.{◌≡◌, ℕ, ◌+◌, ◌-◌, sym, subst, arith}
use Rattle.pt_model.specs.Tables.{position_over}
use Rattle.pt_view.specs.declared.view.View.{View}
use Rattle.pt_view.specs.Calls.{IsEntryAt}
use Rattle.pt_view.specs.Pieces.{entry_number}
use Rattle.pt_view.proofs.Entries.{at_entry}
use Rattle.pt_walk.proofs.EmptyRuns.{last_after, run_meets, run_nothing}
use Rattle.pt_walk.proofs.range.is_empty_over.Given.{Over}
use Rattle.pt_walk.proofs.range.is_empty_over.Goals as goal
use Rattle.pt_walk.proofs.range.is_empty_over.Goals.{After-entry_number-last}

pub overflow_sub-last : goal.overflow_sub-last
overflow_sub-last g c = let a = last_after c.requires.range in let n = c.entry_number-number.ensures.number in let m = c.entry_number-last.ensures.number in omega arith

-- the run ends at the entry over the range's last page
to_last : (g : Over) (c : After-entry_number-last g) →
    c.entry_number-number.result + (c.entry_number-last.result - c.entry_number-number.result + 1) ≡ entry_number g.F.Format.layout c.args.level (c.args.end - 1) + 1
to_last g c = let a = last_after c.requires.range in let n = c.entry_number-number.ensures.number in let m = c.entry_number-last.ensures.number in omega arith

pub empty_run-requires : goal.empty_run-requires
empty_run-requires g c = run_meets c.requires.range c.entry_number-number.ensures.number (to_last g (goal.at.empty_run-requires g c).After-entry_number-last)

pub returns-clause-nothing : goal.returns-clause-nothing
returns-clause-nothing g c = λ yes.
    let f = g.F.Format.layout in
    let v : View = g.H.Holder.view c.args.holder.now in
    let number = c.entry_number-number.ensures.number in
    let at : IsEntryAt f v (position_over f c.args.first c.args.level) c.entry_number-number.result =
    subst (λ (n : ℕ). IsEntryAt f v (position_over f c.args.first c.args.level) n) (sym number) (at_entry c.requires.range.over) in
    run_nothing c.requires.range number (to_last g (goal.at.returns-clause-nothing g c).After-entry_number-last)
    (c.empty_run.ensures.looks.vacant yes (position_over f c.args.first c.args.level) at) g.met.F.Format.lawful_layout c.requires.owns

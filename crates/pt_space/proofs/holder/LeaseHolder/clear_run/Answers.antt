use Rattle.std.proofs.Common.{◌≡◌, ℕ, suc, ◌+◌, ◌<◌, ◌≤◌, ◌^◌, arith, subst, sym, ◌∙◌}
use Rattle.pt_view.specs.Runs.{IsClearedRun}
use Rattle.pt_view.proofs.Stays.{stays_here, stays_on}
use Rattle.pt_rule.specs.Meets.{Always}
use Rattle.pt_space.specs.Standing.{Standing, StaysIn}
use Rattle.pt_space.proofs.Showing.{entries_few}
use Rattle.pt_space.specs.Standing.{IsEntryPlace}
use Rattle.pt_space.proofs.EntryPlaces.{first_entry, place_on}
use Rattle.pt_space.proofs.ClearRuns as runs
use Rattle.pt_space.proofs.holder.LeaseHolder.clear_run.Given.{Over}
use Rattle.pt_space.proofs.holder.LeaseHolder.clear_run.Goals as goal
use Rattle.pt_space.proofs.holder.LeaseHolder.clear_run.Goals.{In-loop-i, in-Empty, in-Leaf}

inside : (g : Over) (c : In-loop-i g) → c.args.first + c.loop-i.i ≤ 2 ^ 31
inside g c =
    let lt = c.loop-i-test.true in
    let within = (c.requires.entry c.loop-i.i (omega arith)).within in
    let few = entries_few g.F.Format.layout g.met.F.Format.lawful_layout in omega arith

-- what a turn leaves in the variables of the loop
abbrev Turned : (g : Over) → (c : In-loop-i g) → Standing → ℕ → Type 0
Turned g c self number = record {
  stays : StaysIn g.F.Format.layout c.args.self.now self;
  cleared : IsClearedRun g.F.Format.layout Always c.args.first (c.loop-i.i + 1) c.args.self.now.view number self.view;
  few : number ≤ c.loop-i.i + 1;
}

pub loop-i-init : goal.loop-i-init
loop-i-init g c = record { stays = stays_here; cleared = runs.cleared_nothing; few = let none : 0 ≤ 0 = omega arith in none }

pub overflow_add-number : goal.overflow_add-number
overflow_add-number g c = let low = inside g (goal.at.overflow_add-number g c).In-loop-i in omega arith

pub entry-frame-requires : goal.entry-frame-requires
entry-frame-requires g c = (c.requires.position, first_entry (c.requires.entry 0 c.requires.some))

pub overflow_add-entry : goal.overflow_add-entry
overflow_add-entry g c = let small = c.entry-frame.ensures.small in let fits = c.ranges.count.fits in let lt = c.loop-i-test.true in omega arith

pub enter_at-requires-clause-at : goal.enter_at-requires-clause-at
enter_at-requires-clause-at g c =
    let first : IsEntryPlace g.F.Format.layout c.args.self.now c.entry-frame.result.0 c.args.first c.entry-frame.result.1 =
    record { lowest = c.entry-frame.ensures.lowest; a_frame = c.entry-frame.ensures.a_frame; place = c.entry-frame.ensures.place } in
    place_on first c.loop-i.invariant.stays.same_space c.loop-i.invariant.cleared.path c.loop-i.i

pub enter_at-requires-clause-meets : goal.enter_at-requires-clause-meets
enter_at-requires-clause-meets g c = let lt = c.loop-i-test.true in runs.meets c.requires c.loop-i.invariant.cleared (omega arith)

pub clear_at-requires-clause-at : goal.clear_at-requires-clause-at
clear_at-requires-clause-at g c =
    let first : IsEntryPlace g.F.Format.layout c.args.self.now c.entry-frame.result.0 c.args.first c.entry-frame.result.1 =
    record { lowest = c.entry-frame.ensures.lowest; a_frame = c.entry-frame.ensures.a_frame; place = c.entry-frame.ensures.place } in
    let lt = c.loop-i-test.true in
    place_on first (c.in-Leaf.ensures.stays.same_space ∙ c.loop-i.invariant.stays.same_space)
    (runs.path_looked c.requires c.loop-i.invariant.cleared (omega arith) c.in-Leaf.ensures.went ∙ c.loop-i.invariant.cleared.path) c.loop-i.i

pub clear_at-requires-clause-may : goal.clear_at-requires-clause-may
clear_at-requires-clause-may g c = let lt = c.loop-i-test.true in runs.may_clear c.requires c.loop-i.invariant.cleared (omega arith) c.in-Leaf.ensures.went

pub overflow_add-cleared : goal.overflow_add-cleared
overflow_add-cleared g c = let lt = c.loop-i-test.true in let few = c.loop-i.invariant.few in let fits = c.ranges.count.fits in omega arith

pub unreachable-requires : goal.unreachable-requires
unreachable-requires g c = let lt = c.loop-i-test.true in runs.none_deeper c.requires c.loop-i.invariant.cleared (omega arith) c.in-Entered.ensures.went

pub loop-i-preserved : goal.loop-i-preserved
loop-i-preserved g c =
    let d = (goal.at.loop-i-preserved g c).In-loop-i in
    let run = λ (k cleared : ℕ) (self : Standing). IsClearedRun g.F.Format.layout Always c.args.first k c.args.self.now.view cleared self.view in
    let lt = c.loop-i-test.true in
    let inv = c.loop-i.invariant in
    let less : c.loop-i.i < c.args.count = omega arith in
    let next : suc c.loop-i.i ≡ c.loop-i.i + 1 = omega arith in
    let few = inv.few in
    elim c.match-enter_at.branch [
      | in-Empty w ↦ subst (λ (t : Standing × ℕ). Turned g d t.0 t.1) (λ j. (sym w.self-is j, sym w.cleared-is j)) (record {
        stays = stays_on inv.stays w.in-Empty.ensures.stays;
        cleared = subst (λ (k : ℕ). run k c.loop-i.cleared c.enter_at.new.self) next (runs.none_there c.requires inv.cleared less w.in-Empty.ensures.went);
        few = omega arith;
      })
      | in-Leaf w ↦ subst (λ (t : Standing × ℕ). Turned g d t.0 t.1) (λ j. (sym w.self-is j, sym w.cleared-is j)) (record {
        stays = stays_on (stays_on inv.stays w.in-Leaf.ensures.stays) w.clear_at.ensures.stays;
        cleared = let more : suc c.loop-i.cleared ≡ c.loop-i.cleared + 1 = omega arith in
            subst (λ (t : ℕ × ℕ). run t.0 t.1 w.clear_at.new.self) (λ j. (next j, more j)) (runs.one_there c.requires inv.cleared less w.in-Leaf.ensures.went w.clear_at.ensures.cleared);
        few = omega arith;
      })
    ]

pub returns-clause-cleared : goal.returns-clause-cleared
returns-clause-cleared g c =
    let end = c.loop-i-test.false in
    let last = c.loop-i.auto.i-end in
    subst (λ (k : ℕ). IsClearedRun g.F.Format.layout Always c.args.first k c.args.self.now.view c.loop-i.cleared c.loop-i.self.view)
    (let e : c.loop-i.i ≡ c.args.count = omega arith in e) c.loop-i.invariant.cleared

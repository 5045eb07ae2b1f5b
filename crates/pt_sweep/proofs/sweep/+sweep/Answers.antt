use Rattle.std.proofs.Common.{◌≡◌, ◌⊎◌, ℕ, ◌+◌, ◌-◌, ◌*◌, ◌/◌, ◌%◌, ◌<◌, ◌≤◌, inl, inr, refl, sym, ◌∙◌, rules, arith}
use Rattle.std.specs.Prelude.{IsTrue}
use Rattle.std.proofs.lemmas.Bool.{cases_lt, false≢true}
use Rattle.pt_model.specs.Layout.{pages_of_entry}
use Rattle.pt_view.specs.declared.view.View.{View}
use Rattle.pt_view.proofs.Loads.{IsLoad, table_high, table_loads}
use Rattle.pt_view.proofs.Stays.{stays_here, stays_on}
use Rattle.pt_walk.specs.Walks.{IsFree, IsOverRange}
use Rattle.pt_walk.proofs.Cuts.{next_stop, pages_few}
use Rattle.pt_walk.proofs.Ranges.{range_below, range_enters, range_from, range_load}
use Rattle.pt_sweep.specs.Sweeps.{MaySweepBelow, SweepsBelow}
use Rattle.pt_sweep.proofs.SweptTables.{below_on, below_table, entries_on, few_pages, free_on, free_table, kept, may_unlink, next_edge, no_level, none_yet, nothing_here, some_path, unlinked}
use Rattle.pt_sweep.proofs.SweptPieces.{leaf_clears, may_clear}
use Rattle.pt_sweep.proofs.sweep.+sweep.Given.{Over}
use Rattle.pt_sweep.proofs.sweep.+sweep.Goals as goal
use Rattle.pt_sweep.proofs.sweep.+sweep.Goals.{sweep_entry-After-enter, sweep-After-min-next, sweep-After-sweep_entry-pages}

-- Under one entry.

load : (g : Over) (t : ℕ) (c : sweep_entry-After-enter g t) → IsLoad g.F.Format.layout g.H.Holder.tells (g.H.Holder.alone c.args.holder.now) (g.H.Holder.view c.args.holder.now) c.args.first c.args.level c.enter.result (g.H.Holder.view c.enter.new.self)
load g t c = range_load c.requires.range c.entry_number-number.ensures.number c.enter.ensures.went

pub sweep_entry-enter-requires : goal.sweep_entry-enter-requires
sweep_entry-enter-requires g t c = range_enters c.requires.range c.entry_number-number.result c.entry_number-number.ensures.number

pub sweep_entry-returns-in-Empty-clause-sweeps : goal.sweep_entry-returns-in-Empty-clause-sweeps
sweep_entry-returns-in-Empty-clause-sweeps g t c =
    nothing_here g.met.F.Format.lawful_layout c.requires.range c.requires.one c.requires.may (load g t (goal.at.sweep_entry-returns-in-Empty-clause-sweeps g t c).After-enter) c.in-Empty.is

pub sweep_entry-clear-requires : goal.sweep_entry-clear-requires
sweep_entry-clear-requires g t c =
    may_clear g.met.F.Format.lawful_layout c.requires.range c.requires.one c.requires.may (load g t (goal.at.sweep_entry-clear-requires g t c).After-enter) c.in-Leaf.is
    c.entry_number-number.result c.entry_number-number.ensures.number

pub sweep_entry-returns-in-Leaf-clause-sweeps : goal.sweep_entry-returns-in-Leaf-clause-sweeps
sweep_entry-returns-in-Leaf-clause-sweeps g t c =
    leaf_clears g.met.F.Format.lawful_layout c.requires.range c.requires.one c.requires.may (load g t (goal.at.sweep_entry-returns-in-Leaf-clause-sweeps g t c).After-enter) c.in-Leaf.is
    c.entry_number-number.ensures.number c.clear.ensures.cleared

pub sweep_entry-overflow_sub-level : goal.sweep_entry-overflow_sub-level
sweep_entry-overflow_sub-level g t c = table_high (load g t (goal.at.sweep_entry-overflow_sub-level g t c).After-enter) c.in-Entered.is

pub sweep_entry-sweep-pages-requires : goal.sweep_entry-sweep-pages-requires
sweep_entry-sweep-pages-requires g t c κs within =
    let f = g.F.Format.layout in
    let w : View = g.H.Holder.view c.enter.new.self in
    let l = load g t (goal.at.sweep_entry-sweep-pages-requires g t c).After-enter in
    let high : 0 < c.args.level = table_high l c.in-Entered.is in
    let go : IsOverRange f w c.args.first c.args.end (c.args.level - 1) = range_below g.met.F.Format.lawful_layout c.requires.range c.requires.one l c.in-Entered.is in
    let may : MaySweepBelow f w c.args.first c.args.end c.args.levels (c.args.level - 1) = below_table g.met.F.Format.lawful_layout c.requires.range c.requires.one c.requires.may l c.in-Entered.is in
    let free : IsTrue c.args.free → IsFree f w c.args.first c.args.end = λ h. free_table f c.args.first c.args.end (table_loads l c.in-Entered.is) (c.requires.free h) in
    search (rules, go, may, free)

pub sweep_entry-leave-requires : goal.sweep_entry-leave-requires
sweep_entry-leave-requires g t c =
    some_path (g.H.Holder.view c.sweep-pages.new.holder) (load g t (goal.at.sweep_entry-leave-requires g t c).After-enter) c.in-Entered.is c.sweep-pages.ensures.sweeps.path

pub sweep_entry-unlink-requires : goal.sweep_entry-unlink-requires
sweep_entry-unlink-requires g t c =
    let l = load g t (goal.at.sweep_entry-unlink-requires g t c).After-enter in
    let off = c.is_off_spine.ensures.0 c.if-is_off_spine.true in
    may_unlink g.met.F.Format.lawful_layout c.requires.range c.requires.one c.requires.may l c.in-Entered.is c.enter.ensures.stays.still_alone c.sweep-pages.ensures.sweeps c.leave.ensures.left off.0 off.1
    c.entry_number-number.result c.entry_number-number.ensures.number

pub sweep_entry-returns-then-is_off_spine-clause-sweeps : goal.sweep_entry-returns-then-is_off_spine-clause-sweeps
sweep_entry-returns-then-is_off_spine-clause-sweeps g t c =
    let l = load g t (goal.at.sweep_entry-returns-then-is_off_spine-clause-sweeps g t c).After-enter in
    let off = c.is_off_spine.ensures.0 c.if-is_off_spine.true in
    unlinked g.met.F.Format.lawful_layout c.requires.range c.requires.one c.requires.may l c.in-Entered.is c.enter.ensures.stays.still_alone c.sweep-pages.ensures.sweeps c.leave.ensures.left off.0 off.1
    c.entry_number-number.ensures.number c.unlink.ensures.unlinked

pub sweep_entry-returns-else-is_off_spine-clause-sweeps : goal.sweep_entry-returns-else-is_off_spine-clause-sweeps
sweep_entry-returns-else-is_off_spine-clause-sweeps g t c =
    let l = load g t (goal.at.sweep_entry-returns-else-is_off_spine-clause-sweeps g t c).After-enter in
    kept g.met.F.Format.lawful_layout c.requires.range c.requires.one c.requires.may l c.in-Entered.is c.enter.ensures.stays.still_alone c.sweep-pages.ensures.sweeps c.leave.ensures.left
    (λ h. false≢true (sym c.if-is_off_spine.false ∙ c.is_off_spine.ensures.1 h))

-- Entry after entry.

pub sweep-returns-then-free-clause-sweeps : goal.sweep-returns-then-free-clause-sweeps
sweep-returns-then-free-clause-sweeps g t c = no_level c.args.first c.args.end c.args.level c.if-level-eq0.true (c.requires.free c.if-free.true)

stop : (g : Over) (t : ℕ) (c : sweep-After-min-next g t) →
    (c.loop-at.at < c.min-next.result) × (c.min-next.result ≤ c.args.end) × (c.min-next.result ≤ (c.loop-at.at / pages_of_entry g.F.Format.layout c.args.level + 1) * pages_of_entry g.F.Format.layout c.args.level)
stop g t c = next_stop g.F.Format.layout g.met.F.Format.lawful_layout c.loop-at.at c.args.end c.args.level c.entry_end.result c.min-next.result c.entry_end.ensures c.min-next.ensures c.loop-at-test.true c.requires.range.in_space

-- the next one begins at an entry, or the range ends there
edge : (g : Over) (t : ℕ) (c : sweep-After-min-next g t) → (c.min-next.result ≡ c.args.end) ⊎ (c.min-next.result % pages_of_entry g.F.Format.layout c.args.level ≡ 0)
edge g t c =
    let f = g.F.Format.layout in
    let few = pages_few f g.met.F.Format.lawful_layout in
    let within = c.requires.range.in_space in
    let s = (stop g t c).1 in
    elim (cases_lt c.min-next.result c.args.end) [
      | inl more ↦ inr (next_edge f c.loop-at.at c.args.end c.args.level c.entry_end.result c.min-next.result (omega arith) c.entry_end.ensures c.min-next.ensures more)
      | inr all ↦ inl (omega arith)
    ]

pub sweep-loop-at-init : goal.sweep-loop-at-init
sweep-loop-at-init g t c = record {
  from = omega arith;
  to = (let some = c.requires.range.some in omega arith);
  edge = λ _. inl refl;
  stays = stays_here;
  sweeps = none_yet c.args.first c.args.level;
}

pub sweep-sweep_entry-pages-requires : goal.sweep-sweep_entry-pages-requires
sweep-sweep_entry-pages-requires g t c κs within =
    let f = g.F.Format.layout in
    let w : View = g.H.Holder.view c.loop-at.holder in
    let i = c.loop-at.invariant in
    let here = (goal.at.sweep-sweep_entry-pages-requires g t c).After-min-next in
    let s = stop g t here in
    let one : c.min-next.result ≤ (c.loop-at.at / pages_of_entry f c.args.level + 1) * pages_of_entry f c.args.level = s.2 in
    let go : IsOverRange f w c.loop-at.at c.min-next.result c.args.level = range_from i.sweeps.range i.sweeps.path c.requires.range c.loop-at.at c.min-next.result i.from s.0 s.1 in
    let may : MaySweepBelow f w c.loop-at.at c.min-next.result c.args.levels c.args.level =
    below_on c.args.first c.loop-at.at c.args.level i.sweeps g.met.F.Format.lawful_layout c.requires.may c.loop-at.at c.min-next.result (i.edge c.loop-at-test.true) (edge g t here) i.from s.1 in
    let free : IsTrue c.args.free → IsFree f w c.loop-at.at c.min-next.result = λ h. free_on c.args.first c.loop-at.at c.args.level i.sweeps c.args.first c.args.end (c.requires.free h) c.loop-at.at c.min-next.result i.from s.1 in
    search (rules, one, go, may, free)

more : (g : Over) (t : ℕ) (c : sweep-After-sweep_entry-pages g t) → c.loop-at.at ≤ c.min-next.result →
    SweepsBelow g.F.Format.layout g.H.Holder.tells (g.H.Holder.alone c.args.holder.now) c.args.first c.min-next.result c.args.level (g.H.Holder.view c.args.holder.now) (g.H.Holder.view c.sweep_entry-pages.new.holder)
    (c.loop-at.pages + c.sweep_entry-pages.result)
more g t c past =
    let i = c.loop-at.invariant in
    let may = c.requires.may.may in
    entries_on c.args.first c.loop-at.at c.min-next.result c.args.level (λ q m. (may.tables q m).aligned) may.apart (i.edge c.loop-at-test.true) i.from
    past i.stays.still_alone i.sweeps c.sweep_entry-pages.ensures.sweeps

pub sweep-overflow_add-pages : goal.sweep-overflow_add-pages
sweep-overflow_add-pages g t c =
    let here = goal.at.sweep-overflow_add-pages g t c in
    let few = pages_few g.F.Format.layout g.met.F.Format.lawful_layout in
    let within = c.requires.range.in_space in
    let s = stop g t here.After-min-next in
    let on = s.0 in
    let to = s.1 in
    let fit = few_pages g.met.F.Format.lawful_layout c.requires.may c.min-next.result (edge g t here.After-min-next) to (more g t here.After-sweep_entry-pages (omega arith)) in omega arith

pub sweep-loop-at-preserved : goal.sweep-loop-at-preserved
sweep-loop-at-preserved g t c =
    let here = goal.at.sweep-loop-at-preserved g t c in
    let i = c.loop-at.invariant in
    let s = stop g t here.After-min-next in
    record {
      from = (let a = s.0 in let b = i.from in omega arith);
      to = s.1;
      edge = λ more. elim (edge g t here.After-min-next) [ inl all ↦ absurd (omega arith) | inr multiple ↦ inr multiple ];
      stays = stays_on i.stays c.sweep_entry-pages.ensures.stays;
      sweeps = more g t here.After-sweep_entry-pages (let on = s.0 in omega arith);
    }

use Rattle.std.proofs.Common.{ℕ, ◌+◌, ◌-◌, ◌*◌, ◌/◌, ◌<◌, ◌≤◌, inl, inr, refl, sym, ◌∙◌, rules, arith}
use Rattle.std.proofs.lemmas.Bool.{false≢true}
use Rattle.pt_model.specs.Layout.{pages_of_entry}
use Rattle.pt_view.specs.declared.view.View.{View}
use Rattle.pt_view.proofs.Loads.{IsLoad, table_high, table_loads}
use Rattle.pt_view.proofs.Stays.{stays_here, stays_on}
use Rattle.pt_walk.specs.Walks.{IsOverRange}
use Rattle.pt_walk.proofs.Cuts.{next_stop, pages_few}
use Rattle.pt_walk.proofs.Ranges.{range_below, range_enters, range_from, range_load}
use Rattle.pt_sweep.specs.EmptyRanges.{IsEmptyRange}
use Rattle.pt_sweep.proofs.EmptyTables.{empty_loads, empty_on, entries_on, kept, may_unlink, next_edge, no_level, none_here, none_yet, some_path, unlinked}
use Rattle.pt_sweep.proofs.tables.+clear_tables.Given.{Over}
use Rattle.pt_sweep.proofs.tables.+clear_tables.Goals as goal
use Rattle.pt_sweep.proofs.tables.+clear_tables.Goals.{clear_table-After-enter, clear_tables-After-min-next}

-- Under one entry.

load : (g : Over) (t : ℕ) (c : clear_table-After-enter g t) → IsLoad g.F.Format.layout g.H.Holder.tells (g.H.Holder.alone c.args.holder.now) (g.H.Holder.view c.args.holder.now) c.args.first c.args.level c.enter.result (g.H.Holder.view c.enter.new.self)
load g t c = range_load c.requires.range c.entry_number-number.ensures.number c.enter.ensures.went

pub clear_table-enter-requires : goal.clear_table-enter-requires
clear_table-enter-requires g t c = range_enters c.requires.range c.entry_number-number.result c.entry_number-number.ensures.number

pub clear_table-overflow_sub-level : goal.clear_table-overflow_sub-level
clear_table-overflow_sub-level g t c = table_high (load g t (goal.at.clear_table-overflow_sub-level g t c).After-enter) c.in-Entered.is

pub clear_table-clear_tables-requires : goal.clear_table-clear_tables-requires
clear_table-clear_tables-requires g t c κs within =
    let f = g.F.Format.layout in
    let w : View = g.H.Holder.view c.enter.new.self in
    let l = load g t (goal.at.clear_table-clear_tables-requires g t c).After-enter in
    let high : 0 < c.args.level = table_high l c.in-Entered.is in
    let go : IsOverRange f w c.args.first c.args.end (c.args.level - 1) = range_below g.met.F.Format.lawful_layout c.requires.range c.requires.one l c.in-Entered.is in
    let empty : IsEmptyRange f w c.args.first c.args.end c.args.levels = empty_loads c.requires.empty (table_loads l c.in-Entered.is) in
    search (rules, go, empty)

pub clear_table-leave-requires : goal.clear_table-leave-requires
clear_table-leave-requires g t c =
    some_path (g.H.Holder.view c.clear_tables.new.holder) (load g t (goal.at.clear_table-leave-requires g t c).After-enter) c.in-Entered.is c.clear_tables.ensures.unlinks.path

pub clear_table-unlink-requires : goal.clear_table-unlink-requires
clear_table-unlink-requires g t c =
    let l = load g t (goal.at.clear_table-unlink-requires g t c).After-enter in
    let off = c.is_off_spine.ensures.0 c.if-is_off_spine.true in
    may_unlink g.met.F.Format.lawful_layout c.requires.range c.requires.one c.requires.empty l c.in-Entered.is c.enter.ensures.stays.still_alone c.clear_tables.ensures.unlinks c.leave.ensures.left off.0 off.1
    c.entry_number-number.result c.entry_number-number.ensures.number

pub clear_table-returns-then-is_off_spine-clause-unlinks : goal.clear_table-returns-then-is_off_spine-clause-unlinks
clear_table-returns-then-is_off_spine-clause-unlinks g t c =
    let l = load g t (goal.at.clear_table-returns-then-is_off_spine-clause-unlinks g t c).After-enter in
    let off = c.is_off_spine.ensures.0 c.if-is_off_spine.true in
    unlinked g.met.F.Format.lawful_layout c.requires.range c.requires.one c.requires.empty l c.in-Entered.is c.enter.ensures.stays.still_alone c.clear_tables.ensures.unlinks c.leave.ensures.left off.0 off.1
    c.entry_number-number.ensures.number c.unlink.ensures.unlinked

pub clear_table-returns-else-is_off_spine-clause-unlinks : goal.clear_table-returns-else-is_off_spine-clause-unlinks
clear_table-returns-else-is_off_spine-clause-unlinks g t c =
    let l = load g t (goal.at.clear_table-returns-else-is_off_spine-clause-unlinks g t c).After-enter in
    kept g.met.F.Format.lawful_layout c.requires.range c.requires.one c.requires.empty l c.in-Entered.is c.enter.ensures.stays.still_alone c.clear_tables.ensures.unlinks c.leave.ensures.left
    (λ h. false≢true (sym c.if-is_off_spine.false ∙ c.is_off_spine.ensures.1 h))

pub clear_table-returns-in_default : goal.clear_table-returns-in_default
clear_table-returns-in_default g t c = record {
  stays = c.enter.ensures.stays;
  unlinks = none_here g.met.F.Format.lawful_layout c.requires.range c.requires.one c.requires.empty (load g t (goal.at.clear_table-returns-in_default g t c).After-enter) c.in_default.not-Entered;
}

-- Entry after entry.

pub clear_tables-returns-then-level-eq0-clause-unlinks : goal.clear_tables-returns-then-level-eq0-clause-unlinks
clear_tables-returns-then-level-eq0-clause-unlinks g t c = no_level c.args.first c.args.end c.args.level c.if-level-eq0.true

stop : (g : Over) (t : ℕ) (c : clear_tables-After-min-next g t) →
    (c.loop-at.at < c.min-next.result) × (c.min-next.result ≤ c.args.end) × (c.min-next.result ≤ (c.loop-at.at / pages_of_entry g.F.Format.layout c.args.level + 1) * pages_of_entry g.F.Format.layout c.args.level)
stop g t c = next_stop g.F.Format.layout g.met.F.Format.lawful_layout c.loop-at.at c.args.end c.args.level c.entry_end.result c.min-next.result c.entry_end.ensures c.min-next.ensures c.loop-at-test.true c.requires.range.in_space

pub clear_tables-loop-at-init : goal.clear_tables-loop-at-init
clear_tables-loop-at-init g t c = record {
  from = omega arith;
  to = (let some = c.requires.range.some in omega arith);
  edge = λ _. inl refl;
  stays = stays_here;
  unlinks = none_yet c.args.first c.args.level;
}

pub clear_tables-clear_table-requires : goal.clear_tables-clear_table-requires
clear_tables-clear_table-requires g t c κs within =
    let f = g.F.Format.layout in
    let w : View = g.H.Holder.view c.loop-at.holder in
    let i = c.loop-at.invariant in
    let s = stop g t (goal.at.clear_tables-clear_table-requires g t c).After-min-next in
    let one : c.min-next.result ≤ (c.loop-at.at / pages_of_entry f c.args.level + 1) * pages_of_entry f c.args.level = s.2 in
    let go : IsOverRange f w c.loop-at.at c.min-next.result c.args.level = range_from i.unlinks.range i.unlinks.path c.requires.range c.loop-at.at c.min-next.result i.from s.0 s.1 in
    let empty : IsEmptyRange f w c.loop-at.at c.min-next.result c.args.levels =
    empty_on c.requires.empty c.args.first c.loop-at.at c.args.level c.loop-at.at c.min-next.result i.unlinks (omega arith) i.to i.from s.1 in
    search (rules, one, go, empty)

pub clear_tables-loop-at-preserved : goal.clear_tables-loop-at-preserved
clear_tables-loop-at-preserved g t c =
    let f = g.F.Format.layout in
    let i = c.loop-at.invariant in
    let e = c.clear_table.ensures in
    let s = stop g t (goal.at.clear_tables-loop-at-preserved g t c).After-min-next in
    let few = pages_few f g.met.F.Format.lawful_layout in
    let within = c.requires.range.in_space in
    record {
      from = (let a = s.0 in let b = i.from in omega arith);
      to = s.1;
      edge = λ more. inr (next_edge f c.loop-at.at c.args.end c.args.level c.entry_end.result c.min-next.result (omega arith) c.entry_end.ensures c.min-next.ensures more);
      stays = stays_on i.stays e.stays;
      unlinks = entries_on c.args.first c.loop-at.at c.min-next.result c.args.level (λ q m. (c.requires.empty.tables q m).aligned) (i.edge c.loop-at-test.true) i.from (let a = s.0 in omega arith)
          i.stays.still_alone i.unlinks e.unlinks;
    }

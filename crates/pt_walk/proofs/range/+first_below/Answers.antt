use Rattle.std.proofs.Common.{◌≡◌, ℕ, ◌+◌, ◌-◌, ◌*◌, ◌/◌, ◌<◌, ◌≤◌, ◌∙◌, refl, sym, subst, rules, arith}
use Rattle.std.proofs.lemmas.Bool.{false≢true}
use Rattle.pt_model.specs.Layout.{pages_of_entry}
use Rattle.pt_view.specs.declared.view.View.{View}
use Rattle.pt_view.specs.declared.holder.Seen.{Seen}
use Rattle.pt_view.specs.declared.holder.Seen.TheVariants.{Empty, Entered}
use Rattle.pt_view.proofs.Loads.{IsLoad, back_loads, back_path, leaf_loads, load_leaf, load_none, loads_here, loads_on, none_loads, some_path, table_high}
use Rattle.pt_view.proofs.Stays.{stays_here, stays_on}
use Rattle.pt_view.specs.Loads.{ByLoads}
use Rattle.pt_view.specs.Views.{Stays}
use Rattle.pt_walk.specs.declared.range.Under.{Under}
use Rattle.pt_walk.specs.declared.range.Under.TheVariants.{Nothing, Tables, Mapped}
use Rattle.pt_walk.specs.Walks.{FindsUnder, HasNoTable, IsClear, IsFree, IsOverRange, OwnsAll}
use Rattle.pt_walk.proofs.Cuts.{next_stop}
use Rattle.pt_walk.proofs.Descent.{owns_on}
use Rattle.pt_walk.proofs.Ranges.{clear_below, clear_from, clear_on, free_here, free_more, lowest_here, lowest_more, no_table_here, no_table_more, no_table_on, range_below, range_enters, range_from, range_load, under_free, under_mapped}
use Rattle.pt_walk.proofs.range.+first_below.Given.{Over}
use Rattle.pt_walk.proofs.range.+first_below.Goals as goal
use Rattle.pt_walk.proofs.range.+first_below.Goals.{first_at-After-enter, first_at-After-leave, first_below-After-first_at, first_below-After-min-next}

-- Under one entry.

-- the load of the entry over the range
load : (g : Over) (t : ℕ) (c : first_at-After-enter g t) → IsLoad g.F.Format.layout g.H.Holder.tells (g.H.Holder.alone c.args.holder.now) (g.H.Holder.view c.args.holder.now) c.args.first c.args.level c.enter.result (g.H.Holder.view c.enter.new.self)
load g t c = range_load c.requires.range c.entry_number.ensures.number c.enter.ensures.went

pub first_at-enter-requires : goal.first_at-enter-requires
first_at-enter-requires g t c = range_enters c.requires.range c.entry_number.result c.entry_number.ensures.number

pub first_at-overflow_sub-level : goal.first_at-overflow_sub-level
first_at-overflow_sub-level g t c = table_high (load g t (goal.at.first_at-overflow_sub-level g t c).After-enter) c.in-Entered.is

pub first_at-first_below-under-requires : goal.first_at-first_below-under-requires
first_at-first_below-under-requires g t c κs within =
    let f = g.F.Format.layout in
    let w : View = g.H.Holder.view c.enter.new.self in
    let l = load g t (goal.at.first_at-first_below-under-requires g t c).After-enter in
    let high : 0 < c.args.level = table_high l c.in-Entered.is in
    let go : IsOverRange f w c.args.first c.args.end (c.args.level - 1) = range_below g.met.F.Format.lawful_layout c.requires.range c.requires.one l c.in-Entered.is in
    let owns : OwnsAll f w = owns_on f c.enter.ensures.went.range c.enter.ensures.went.book c.requires.owns in
    search (rules, go, owns)

pub first_at-leave-requires : goal.first_at-leave-requires
first_at-leave-requires g t c =
    some_path (load g t (goal.at.first_at-leave-requires g t c).After-enter) c.in-Entered.is c.first_below-under.ensures.walked c.first_below-under.ensures.path

pub first_at-returns-in-Empty : goal.first_at-returns-in-Empty
first_at-returns-in-Empty g t c =
    let l = load g t (goal.at.first_at-returns-in-Empty g t c).After-enter in
    let r = c.requires in
    record {
      stays = c.enter.ensures.stays;
      walked = none_loads l c.in-Empty.is;
      path = (load_none l c.in-Empty.is).path;
      under = λ clear. (free_here g.met.F.Format.lawful_layout r.range r.one l c.in-Empty.is r.owns clear, no_table_here g.met.F.Format.lawful_layout r.range r.one l (λ other. not_both c.in-Empty.is other));
    }
  where
    not_both : {s : Seen} → s ≡ Empty → s ≡ Entered → ⊥
    not_both a b = cc

pub first_at-returns-in-Leaf : goal.first_at-returns-in-Leaf
first_at-returns-in-Leaf g t c =
    let l = load g t (goal.at.first_at-returns-in-Leaf g t c).After-enter in
    let lowest = lowest_here g.met.F.Format.lawful_layout c.requires.range c.requires.one l c.in-Leaf.is c.requires.owns in
    record { stays = c.enter.ensures.stays; walked = leaf_loads l c.in-Leaf.is; path = (load_leaf l c.in-Leaf.is).path; under = λ clear. lowest }

-- the way came back from the table under the entry
module _ (g : Over) (t : ℕ) (c : first_at-After-leave g t) where
  back : IsLoad g.F.Format.layout g.H.Holder.tells (g.H.Holder.alone c.args.holder.now) (g.H.Holder.view c.args.holder.now) c.args.first c.args.level c.enter.result (g.H.Holder.view c.enter.new.self)
  back = range_load c.requires.range c.entry_number.ensures.number c.enter.ensures.went

  walked_back : ByLoads g.H.Holder.tells (g.H.Holder.view c.args.holder.now) (g.H.Holder.view c.leave.new.self)
  walked_back = back_loads back c.in-Entered.is c.first_below-under.ensures.walked c.first_below-under.ensures.path c.leave.ensures.left

  path_back : (g.H.Holder.view c.leave.new.self).path ≡ (g.H.Holder.view c.args.holder.now).path
  path_back = back_path back c.in-Entered.is c.first_below-under.ensures.walked c.first_below-under.ensures.path c.leave.ensures.left

  stays_back : Stays g.H.Holder.space g.H.Holder.aside g.H.Holder.alone c.args.holder.now c.leave.new.self
  stays_back = stays_on c.enter.ensures.stays (stays_on c.first_below-under.ensures.stays c.leave.ensures.stays)

  found_below : IsClear g.F.Format.layout (g.H.Holder.view c.args.holder.now) c.args.first c.args.end c.args.level →
      FindsUnder g.F.Format.layout (g.H.Holder.view c.enter.new.self) c.args.first c.args.end (c.args.level - 1) c.first_below-under.result
  found_below clear = c.first_below-under.ensures.under (clear_below g.met.F.Format.lawful_layout c.requires.range c.requires.one back c.in-Entered.is c.requires.owns clear)

pub first_at-returns-in-Mapped : goal.first_at-returns-in-Mapped
first_at-returns-in-Mapped g t c =
    let at = (goal.at.first_at-returns-in-Mapped g t c).After-leave in
    record {
      stays = stays_back g t at;
      walked = walked_back g t at;
      path = path_back g t at;
      under = λ clear. under_mapped g.F.Format.layout c.args.first c.args.end (c.args.level - 1) c.first_below-under.result c.in-Mapped.is c.enter.ensures.went.book (found_below g t at clear);
    }

pub first_at-returns-in_default : goal.first_at-returns-in_default
first_at-returns-in_default g t c =
    let at = (goal.at.first_at-returns-in_default g t c).After-leave in
    record {
      stays = stays_back g t at;
      walked = walked_back g t at;
      path = path_back g t at;
      under = λ clear. under_free g.F.Format.layout c.args.first c.args.end (c.args.level - 1) c.first_below-under.result c.in_default.not-Mapped c.enter.ensures.went.book (found_below g t at clear);
    }

-- Entry after entry.

stop : (g : Over) (t : ℕ) (c : first_below-After-min-next g t) →
    (c.loop-at.at < c.min-next.result) × (c.min-next.result ≤ c.args.end) × (c.min-next.result ≤ (c.loop-at.at / pages_of_entry g.F.Format.layout c.args.level + 1) * pages_of_entry g.F.Format.layout c.args.level)
stop g t c = next_stop g.F.Format.layout g.met.F.Format.lawful_layout c.loop-at.at c.args.end c.args.level c.entry_end.result c.min-next.result c.entry_end.ensures c.min-next.ensures c.loop-at-test.true c.requires.range.in_space

pub first_below-first_at-requires : goal.first_below-first_at-requires
first_below-first_at-requires g t c κs within =
    let f = g.F.Format.layout in
    let w : View = g.H.Holder.view c.loop-at.holder in
    let i = c.loop-at.invariant in
    let s = stop g t (goal.at.first_below-first_at-requires g t c).After-min-next in
    let one : c.min-next.result ≤ (c.loop-at.at / pages_of_entry f c.args.level + 1) * pages_of_entry f c.args.level = s.2 in
    let go : IsOverRange f w c.loop-at.at c.min-next.result c.args.level = range_from i.walked.range i.path c.requires.range c.loop-at.at c.min-next.result i.from s.0 s.1 in
    let owns : OwnsAll f w = owns_on f i.walked.range i.walked.book c.requires.owns in
    search (rules, one, go, owns)

-- what was found from one page to before the end of its entry, or of the range
module _ (g : Over) (t : ℕ) (c : first_below-After-first_at g t) where
  next : (c.loop-at.at < c.min-next.result) × (c.min-next.result ≤ c.args.end) × (c.min-next.result ≤ (c.loop-at.at / pages_of_entry g.F.Format.layout c.args.level + 1) * pages_of_entry g.F.Format.layout c.args.level)
  next = stop g t (goal.at.first_below-After-first_at g t c).After-min-next

  looked : IsClear g.F.Format.layout (g.H.Holder.view c.args.holder.now) c.args.first c.args.end c.args.level →
      FindsUnder g.F.Format.layout (g.H.Holder.view c.loop-at.holder) c.loop-at.at c.min-next.result c.args.level c.first_at.result
  looked clear =
      let i = c.loop-at.invariant in
      c.first_at.ensures.under (clear_on g.F.Format.layout c.loop-at.at c.min-next.result c.args.level i.walked.book
      (clear_from g.F.Format.layout (g.H.Holder.view c.args.holder.now) c.args.first c.args.end c.loop-at.at c.min-next.result c.args.level clear i.from next.1))

  free_to : ((page : ℕ) → ¬ (c.first_at.result ≡ Mapped page)) → IsClear g.F.Format.layout (g.H.Holder.view c.args.holder.now) c.args.first c.args.end c.args.level →
      IsFree g.F.Format.layout (g.H.Holder.view c.args.holder.now) c.args.first c.min-next.result
  free_to none clear =
      free_more g.F.Format.layout (g.H.Holder.view c.args.holder.now) c.args.first c.loop-at.at c.min-next.result (c.loop-at.invariant.free clear)
      (under_free g.F.Format.layout c.loop-at.at c.min-next.result c.args.level c.first_at.result none c.loop-at.invariant.walked.book (looked clear))

pub first_below-loop-at-init : goal.first_below-loop-at-init
first_below-loop-at-init g t c = record {
  from = omega arith;
  to = (let some = c.requires.range.some in omega arith);
  stays = stays_here;
  walked = loads_here;
  path = refl;
  free = λ clear page low high. absurd (omega arith);
  none = λ clear e q m low from to. absurd (omega arith);
}

pub first_below-returns-in-Mapped-clause-under : goal.first_below-returns-in-Mapped-clause-under
first_below-returns-in-Mapped-clause-under g t c = λ clear.
    let at = (goal.at.first_below-returns-in-Mapped-clause-under g t c).After-first_at in
    let i = c.loop-at.invariant in
    lowest_more c.args.first c.args.end i.from (next g t at).1 (i.free clear)
    (under_mapped g.F.Format.layout c.loop-at.at c.min-next.result c.args.level c.first_at.result c.in-Mapped.is i.walked.book (looked g t at clear))

pub first_below-loop-at-preserved-in-Nothing : goal.first_below-loop-at-preserved-in-Nothing
first_below-loop-at-preserved-in-Nothing g t c =
    let f = g.F.Format.layout in
    let v : View = g.H.Holder.view c.args.holder.now in
    let at = (goal.at.first_below-loop-at-preserved-in-Nothing g t c).After-first_at in
    let i = c.loop-at.invariant in
    let e = c.first_at.ensures in
    let s = next g t at in
    record {
      from = (let a = s.0 in let b = i.from in omega arith);
      to = s.1;
      stays = stays_on i.stays e.stays;
      walked = loads_on i.walked e.walked;
      path = e.path ∙ i.path;
      free = free_to g t at (λ page is. not_both c.in-Nothing.is is);
      none = λ clear is.
          let h = subst (FindsUnder f (g.H.Holder.view c.loop-at.holder) c.loop-at.at c.min-next.result c.args.level) c.in-Nothing.is (looked g t at clear) in
          no_table_more v c.args.first c.loop-at.at c.min-next.result c.args.level (i.none clear is) (no_table_on c.loop-at.at c.min-next.result c.args.level i.walked.book h.1);
    }
  where
    not_both : {u : Under} {page : ℕ} → u ≡ Nothing → u ≡ Mapped page → ⊥
    not_both a b = cc

pub first_below-loop-at-preserved : goal.first_below-loop-at-preserved
first_below-loop-at-preserved g t c =
    let at = (goal.at.first_below-loop-at-preserved g t c).After-first_at in
    let i = c.loop-at.invariant in
    let e = c.first_at.ensures in
    let s = next g t at in
    record {
      from = (let a = s.0 in let b = i.from in omega arith);
      to = s.1;
      stays = stays_on i.stays e.stays;
      walked = loads_on i.walked e.walked;
      path = e.path ∙ i.path;
      free = free_to g t at (λ page is. not_both c.in-Tables.is is);
      none = λ clear is. absurd {A = HasNoTable (g.H.Holder.view c.args.holder.now) c.args.first c.min-next.result c.args.level} (false≢true (sym is));
    }
  where
    not_both : {u : Under} {page : ℕ} → u ≡ Tables → u ≡ Mapped page → ⊥
    not_both a b = cc

pub first_below-returns-then-tables-clause-under : goal.first_below-returns-then-tables-clause-under
first_below-returns-then-tables-clause-under g t c = λ clear page low high. c.loop-at.invariant.free clear page low (let past = c.loop-at-test.false in omega arith)

pub first_below-returns-else-tables-clause-under : goal.first_below-returns-else-tables-clause-under
first_below-returns-else-tables-clause-under g t c = λ clear. (
  (λ page low high. c.loop-at.invariant.free clear page low (let past = c.loop-at-test.false in omega arith)),
  (λ q m low from to. c.loop-at.invariant.none clear c.if-tables.false q m low from (let past = c.loop-at-test.false in omega arith)),
)

use Rattle.std.proofs.Common.{◌≡◌, ℕ, ◌+◌, ◌*◌, ◌/◌, ◌≤◌, arith}
use Rattle.pt_model.specs.Layout.{pages_of_entry}
use Rattle.pt_view.specs.declared.view.View.{View}
use Rattle.pt_view.specs.declared.holder.Seen.{Seen}
use Rattle.pt_view.specs.declared.holder.Seen.TheVariants.{Empty, Entered, Leaf}
use Rattle.pt_view.specs.Loads.{ByLoads}
use Rattle.pt_view.proofs.Loads.{IsLoad, loads_on, no_table, table_loads, table_owned}
use Rattle.pt_view.proofs.Stays.{stays_on}
use Rattle.pt_walk.specs.Walks.{IsOverRange, StaysClear, WentDown}
use Rattle.pt_walk.proofs.Descent.{owns_on}
use Rattle.pt_walk.proofs.Ranges.{clear_below, clear_on, down_longer, down_still, lowest_after, owns_lower, range_below, range_enters, range_from, range_load, stops_empty}
use Rattle.pt_walk.proofs.range.descend.Given.{Over}
use Rattle.pt_walk.proofs.range.descend.Goals as goal
use Rattle.pt_walk.proofs.range.descend.Goals.{After-enter}

empty_not : {s : Seen} → s ≡ Empty → s ≡ Entered → ⊥
empty_not a b = cc

leaf_not : {s : Seen} {word : ℕ} → s ≡ Leaf word → s ≡ Entered → ⊥
leaf_not a b = cc

pub enter-requires : goal.enter-requires
enter-requires g c = range_enters c.loop-at.invariant.range c.entry_number.result c.entry_number.ensures.number

-- What a turn loads, and what it keeps where the entry names no table.
module _ (g : Over) (c : After-enter g) where
  abbrev v : View
  v = g.H.Holder.view c.args.holder.now

  abbrev u : View
  u = g.H.Holder.view c.loop-at.holder

  abbrev w : View
  w = g.H.Holder.view c.enter.new.self

  load : IsLoad g.F.Format.layout g.H.Holder.tells (g.H.Holder.alone c.loop-at.holder) u c.args.first c.loop-at.at c.enter.result w
  load = range_load c.loop-at.invariant.range c.entry_number.ensures.number c.enter.ensures.went

  one : c.args.end ≤ (c.args.first / pages_of_entry g.F.Format.layout c.loop-at.at + 1) * pages_of_entry g.F.Format.layout c.loop-at.at
  one = c.lies_under.ensures.0 c.if-lies_under.true

  module _ (not : ¬ (c.enter.result ≡ Entered)) where
    here : ByLoads g.H.Holder.tells u w × (w.path ≡ u.path)
    here = no_table load not

    walked_here : ByLoads g.H.Holder.tells v w
    walked_here = loads_on c.loop-at.invariant.walked here.0

    range_here : IsOverRange g.F.Format.layout w c.args.first c.args.end c.loop-at.at
    range_here = let r = c.loop-at.invariant.range in range_from c.enter.ensures.went.range here.1 r c.args.first c.args.end (omega arith) r.some (omega arith)

    down_to : WentDown g.F.Format.layout v w c.args.first c.args.level c.loop-at.at
    down_to = down_still c.loop-at.invariant.down here.1

    clear_here : StaysClear g.F.Format.layout v w c.args.first c.args.end c.args.level c.loop-at.at
    clear_here = λ owns clear. clear_on g.F.Format.layout c.args.first c.args.end c.loop-at.at c.enter.ensures.went.book (c.loop-at.invariant.clear owns clear)

pub returns-in-Empty-clause-walked : goal.returns-in-Empty-clause-walked
returns-in-Empty-clause-walked g c = walked_here g (goal.at.returns-in-Empty-clause-walked g c).After-enter (λ other. empty_not c.in-Empty.is other)

pub returns-in-Empty-clause-range : goal.returns-in-Empty-clause-range
returns-in-Empty-clause-range g c = range_here g (goal.at.returns-in-Empty-clause-range g c).After-enter (λ other. empty_not c.in-Empty.is other)

pub returns-in-Empty-clause-down : goal.returns-in-Empty-clause-down
returns-in-Empty-clause-down g c = down_to g (goal.at.returns-in-Empty-clause-down g c).After-enter (λ other. empty_not c.in-Empty.is other)

pub returns-in-Empty-clause-stops : goal.returns-in-Empty-clause-stops
returns-in-Empty-clause-stops g c = stops_empty (load g (goal.at.returns-in-Empty-clause-stops g c).After-enter) c.args.end c.args.lowest c.in-Empty.is

pub returns-in-Empty-clause-clear : goal.returns-in-Empty-clause-clear
returns-in-Empty-clause-clear g c = clear_here g (goal.at.returns-in-Empty-clause-clear g c).After-enter (λ other. empty_not c.in-Empty.is other)

pub returns-in-Leaf-clause-walked : goal.returns-in-Leaf-clause-walked
returns-in-Leaf-clause-walked g c = walked_here g (goal.at.returns-in-Leaf-clause-walked g c).After-enter (λ other. leaf_not c.in-Leaf.is other)

pub returns-in-Leaf-clause-range : goal.returns-in-Leaf-clause-range
returns-in-Leaf-clause-range g c = range_here g (goal.at.returns-in-Leaf-clause-range g c).After-enter (λ other. leaf_not c.in-Leaf.is other)

pub returns-in-Leaf-clause-down : goal.returns-in-Leaf-clause-down
returns-in-Leaf-clause-down g c = down_to g (goal.at.returns-in-Leaf-clause-down g c).After-enter (λ other. leaf_not c.in-Leaf.is other)

pub returns-in-Leaf-clause-stops : goal.returns-in-Leaf-clause-stops
returns-in-Leaf-clause-stops g c =
    let at = (goal.at.returns-in-Leaf-clause-stops g c).After-enter in lowest_after g.met.F.Format.lawful_layout c.loop-at.invariant.range (one g at) (load g at) c.in-Leaf.is

pub returns-in-Leaf-clause-clear : goal.returns-in-Leaf-clause-clear
returns-in-Leaf-clause-clear g c = clear_here g (goal.at.returns-in-Leaf-clause-clear g c).After-enter (λ other. leaf_not c.in-Leaf.is other)

pub loop-at-preserved : goal.loop-at-preserved
loop-at-preserved g c =
    let f = g.F.Format.layout in
    let at = (goal.at.loop-at-preserved g c).After-enter in
    let good = g.met.F.Format.lawful_layout in
    let i = c.loop-at.invariant in
    let l = load g at in
    record {
      stays = stays_on i.stays c.enter.ensures.stays;
      walked = loads_on i.walked (table_loads l c.in-Entered.is);
      range = range_below good i.range (one g at) l c.in-Entered.is;
      down = down_longer i.down l c.in-Entered.is;
      lowest = (let more = c.loop-at-test.true in omega arith);
      owned = λ a. owns_lower f c.args.first c.loop-at.at c.args.level i.walked.range i.walked.book (i.owned a) (table_owned l c.in-Entered.is (i.stays.still_alone a));
      clear = λ owns clear. clear_below good i.range (one g at) l c.in-Entered.is (owns_on f i.walked.range i.walked.book owns) (i.clear owns clear);
    }

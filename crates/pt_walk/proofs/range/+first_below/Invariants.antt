use Rattle.std.proofs.Common.{◌≡◌, false, ◌+◌, ◌-◌, ◌*◌, ◌≤◌}
use Rattle.pt_view.specs.declared.view.View.{View}
use Rattle.pt_walk.specs.Walks.{HasNoTable, IsClear, IsFree}
use Rattle.pt_view.specs.Loads.{ByLoads}
use Rattle.pt_view.specs.Views.{Stays}
use Rattle.pt_walk.proofs.range.+first_below.Given as goal

abbrev pub decreases-first_below : goal.decreases-first_below
decreases-first_below g l = 2 * l.level + 1

abbrev pub decreases-first_at : goal.decreases-first_at
decreases-first_at g l = 2 * l.level

abbrev pub invariant-first_below-loop-at : goal.invariant-first_below-loop-at
invariant-first_below-loop-at g l =
    let f = g.F.Format.layout in
    let v : View = g.H.Holder.view l.initial.holder in
    let w : View = g.H.Holder.view l.holder in
    record {
      from : l.first ≤ l.at;
      to : l.at ≤ l.end;
      stays : Stays g.H.Holder.space g.H.Holder.aside g.H.Holder.alone l.initial.holder l.holder;
      walked : ByLoads g.H.Holder.tells v w;
      path : w.path ≡ v.path;
      free : IsClear f v l.first l.end l.level → IsFree f v l.first l.at;
      none : IsClear f v l.first l.end l.level → l.tables ≡ false → HasNoTable v l.first l.at l.level;
    }

abbrev pub decreases-first_below-loop-at : goal.decreases-first_below-loop-at
decreases-first_below-loop-at g l = l.end - l.at

use Rattle.std.proofs.Common.{◌≤◌}
use Rattle.pt_view.specs.declared.view.View.{View}
use Rattle.pt_view.specs.Loads.{ByLoads}
use Rattle.pt_view.specs.Views.{Stays}
use Rattle.pt_walk.specs.Walks.{IsOverRange, OwnsOver, StaysClear, WentDown}
use Rattle.pt_walk.proofs.range.descend.Given as goal

abbrev pub invariant-loop-at : goal.invariant-loop-at
invariant-loop-at g l =
    let f = g.F.Format.layout in
    let v : View = g.H.Holder.view l.initial.holder in
    let w : View = g.H.Holder.view l.holder in
    record {
      stays : Stays g.H.Holder.space g.H.Holder.aside g.H.Holder.alone l.initial.holder l.holder;
      walked : ByLoads g.H.Holder.tells v w;
      range : IsOverRange f w l.first l.end l.at;
      down : WentDown f v w l.first l.level l.at;
      lowest : l.lowest ≤ l.at;
      owned : g.H.Holder.alone l.initial.holder → OwnsOver f v l.first l.at l.level;
      clear : StaysClear f v w l.first l.end l.level l.at;
    }

abbrev pub decreases-loop-at : goal.decreases-loop-at
decreases-loop-at g l = l.at

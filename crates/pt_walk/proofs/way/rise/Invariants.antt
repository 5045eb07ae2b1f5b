use Rattle.std.proofs.Common.{◌≡◌}
use Rattle.std.specs.Prelude.{length}
use Rattle.pt_view.specs.declared.view.View.{View}
use Rattle.pt_view.specs.Loads.{ByLoads}
use Rattle.pt_walk.specs.RangeWalks.{IsOnWay}
use Rattle.pt_view.specs.Views.{Stays}
use Rattle.pt_walk.proofs.way.rise.Given as goal

abbrev pub invariant-loop-way : goal.invariant-loop-way
invariant-loop-way g l =
    let v : View = g.H.Holder.view l.initial.holder in
    let w : View = g.H.Holder.view l.holder in
    record {
      stays : Stays g.H.Holder.space g.H.Holder.aside g.H.Holder.alone l.initial.holder l.holder;
      walked : ByLoads g.H.Holder.tells v w;
      way : IsOnWay g.F.Format.layout w l.way;
      at : l.way.at ≡ l.initial.way.at;
      end : l.way.end ≡ l.initial.way.end;
    }

abbrev pub decreases-loop-way : goal.decreases-loop-way
decreases-loop-way g l = length l.way.above.items

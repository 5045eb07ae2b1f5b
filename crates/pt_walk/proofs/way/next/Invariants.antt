use Rattle.std.proofs.Common.{◌≡◌, List}
use Rattle.pt_model.specs.declared.block.Block.{Block}
use Rattle.pt_view.specs.declared.view.View.{View}
use Rattle.pt_view.specs.Views.{IsAtRest}
use Rattle.pt_view.specs.Loads.{ByLoads}
use Rattle.pt_walk.specs.RangeWalks.{IsWalking, left_of, rested, work_of}
use Rattle.pt_view.specs.Views.{Stays}
use Rattle.pt_walk.proofs.way.next.Given as goal

abbrev pub invariant-loop-way : goal.invariant-loop-way
invariant-loop-way g l =
    let f = g.F.Format.layout in
    let v : View = g.H.Holder.view l.initial.holder in
    let w : View = g.H.Holder.view l.holder in
    record {
      stays : Stays g.H.Holder.space g.H.Holder.aside g.H.Holder.alone l.initial.holder l.holder;
      walked : ByLoads g.H.Holder.tells v w;
      way : IsWalking f w l.way;
      left : (blocks : List Block) → IsAtRest f (rested v) blocks → left_of l.initial.way blocks ≡ left_of l.way blocks;
    }

abbrev pub decreases-loop-way : goal.decreases-loop-way
decreases-loop-way g l = work_of l.way

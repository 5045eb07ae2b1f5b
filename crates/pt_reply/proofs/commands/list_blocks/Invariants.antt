use Rattle.std.proofs.Common.{◌≡◌, ◌+◌, ◌≤◌, ◌++◌, length}
use Rattle.std.specs.Prelude.{take}
use Rattle.pt_model.specs.Dumps.{dump_limit}
use Rattle.pt_view.specs.declared.view.View.{View}
use Rattle.pt_view.specs.Loads.{ByLoads}
use Rattle.pt_view.specs.Views.{KeepsRest, Stays}
use Rattle.pt_walk.specs.RangeWalks.{IsWalking, rested}
use Rattle.pt_reply.specs.Running.{left_in}
use Rattle.pt_reply.proofs.commands.list_blocks.Given as goal

-- the blocks that came and those that are left are all
abbrev pub invariant-loop-block : goal.invariant-loop-block
invariant-loop-block g l =
    let v : View = g.H.Holder.view l.initial.holder in
    let w : View = g.H.Holder.view l.holder in
    record {
      stays : Stays g.H.Holder.space g.H.Holder.aside g.H.Holder.alone l.initial.holder l.holder;
      walked : ByLoads g.H.Holder.tells v w;
      walking : IsWalking g.F.Format.layout w l.walk;
      rest : KeepsRest g.F.Format.layout (rested v) (rested w);
      counted : l.count + length (left_in v l.walk) ≡ length (left_in v l.initial.walk);
      few : length l.lowest.items ≤ dump_limit;
      listed : take dump_limit (l.lowest.items ++ left_in v l.walk) ≡ take dump_limit (left_in v l.initial.walk);
    }

abbrev pub decreases-loop-block : goal.decreases-loop-block
decreases-loop-block g l = length (left_in (g.H.Holder.view l.initial.holder) l.walk)

use Rattle.std.proofs.Common.{◌-◌, ◌+◌, ◌*◌}
use Rattle.pt_view.specs.Views.{Stays}
use Rattle.pt_map.proofs.WayMade.{IsMaking}
use Rattle.pt_map.proofs.replace.+unlink_replaced.Given as goal

abbrev pub decreases-unlink_first : goal.decreases-unlink_first
decreases-unlink_first g l = 3 * l.level + 1

abbrev pub decreases-unlink_replaced : goal.decreases-unlink_replaced
decreases-unlink_replaced g l = 3 * l.level + 2

abbrev pub decreases-unlink_under : goal.decreases-unlink_under
decreases-unlink_under g l = 3 * l.level

abbrev pub invariant-unlink_replaced-loop-rest : goal.invariant-unlink_replaced-loop-rest
invariant-unlink_replaced-loop-rest g l =
    record {
      stays : Stays g.H.Holder.space g.H.Holder.aside g.H.Holder.alone l.initial.holder l.holder;
      making : IsMaking g.F.Format.layout g.H.Holder.tells (g.H.Holder.alone l.initial.holder) (g.H.Holder.view l.initial.holder) (g.H.Holder.view l.holder) l.initial.rest l.rest l.level;
    }

abbrev pub decreases-unlink_replaced-loop-rest : goal.decreases-unlink_replaced-loop-rest
decreases-unlink_replaced-loop-rest g l = l.rest.end - l.rest.first

use Rattle.std.proofs.Common.{◌-◌, ◌+◌, ◌*◌}
use Rattle.pt_view.specs.Views.{Stays}
use Rattle.pt_map.proofs.FillTurns.{IsFilling}
use Rattle.pt_map.proofs.fill.+fill.Given as goal

abbrev pub decreases-fill_first : goal.decreases-fill_first
decreases-fill_first g l = 3 * l.level + 1

abbrev pub decreases-fill_entry : goal.decreases-fill_entry
decreases-fill_entry g l = 3 * l.level

abbrev pub decreases-fill : goal.decreases-fill
decreases-fill g l = 3 * l.level + 2

abbrev pub invariant-fill-loop-rest : goal.invariant-fill-loop-rest
invariant-fill-loop-rest g l =
    record {
      stays : Stays g.H.Holder.space g.H.Holder.aside g.H.Holder.alone l.initial.holder l.holder;
      filling : IsFilling g.F.Format.layout g.H.Holder.tells (g.H.Holder.view l.initial.holder) (g.H.Holder.view l.holder) l.initial.rest l.rest l.level;
    }

abbrev pub decreases-fill-loop-rest : goal.decreases-fill-loop-rest
decreases-fill-loop-rest g l = l.rest.end - l.rest.first

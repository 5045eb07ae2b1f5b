use Rattle.std.proofs.Common.{◌≡◌, ◌⊎◌, ◌+◌, ◌-◌, ◌*◌, ◌%◌, ◌<◌, ◌≤◌}
use Rattle.pt_model.specs.Layout.{pages_of_entry}
use Rattle.pt_view.specs.Views.{Stays}
use Rattle.pt_sweep.specs.Empties.{Unlinks, lies_below}
use Rattle.pt_sweep.proofs.tables.+clear_tables.Given as goal

abbrev pub decreases-clear_tables : goal.decreases-clear_tables
decreases-clear_tables g l = 2 * l.level + 1

abbrev pub decreases-clear_table : goal.decreases-clear_table
decreases-clear_table g l = 2 * l.level

abbrev pub invariant-clear_tables-loop-at : goal.invariant-clear_tables-loop-at
invariant-clear_tables-loop-at g l =
    let f = g.F.Format.layout in
    record {
      from : l.first ≤ l.at;
      to : l.at ≤ l.end;
      edge : l.at < l.end → (l.at ≡ l.first) ⊎ (l.at % pages_of_entry f l.level ≡ 0);
      stays : Stays g.H.Holder.space g.H.Holder.aside g.H.Holder.alone l.initial.holder l.holder;
      unlinks : Unlinks f g.H.Holder.tells (g.H.Holder.alone l.initial.holder) (lies_below f l.first l.at l.level) (g.H.Holder.view l.initial.holder) (g.H.Holder.view l.holder);
    }

abbrev pub decreases-clear_tables-loop-at : goal.decreases-clear_tables-loop-at
decreases-clear_tables-loop-at g l = l.end - l.at

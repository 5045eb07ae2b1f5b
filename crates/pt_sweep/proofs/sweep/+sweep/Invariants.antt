use Rattle.std.proofs.Common.{◌≡◌, ◌⊎◌, ◌+◌, ◌-◌, ◌*◌, ◌%◌, ◌<◌, ◌≤◌}
use Rattle.pt_model.specs.Layout.{pages_of_entry}
use Rattle.pt_view.specs.Views.{Stays}
use Rattle.pt_sweep.specs.Sweeps.{SweepsBelow}
use Rattle.pt_sweep.proofs.sweep.+sweep.Given as goal

abbrev pub decreases-sweep : goal.decreases-sweep
decreases-sweep g l = 2 * l.level + 1

abbrev pub decreases-sweep_entry : goal.decreases-sweep_entry
decreases-sweep_entry g l = 2 * l.level

abbrev pub invariant-sweep-loop-at : goal.invariant-sweep-loop-at
invariant-sweep-loop-at g l =
    let f = g.F.Format.layout in
    record {
      from : l.first ≤ l.at;
      to : l.at ≤ l.end;
      edge : l.at < l.end → (l.at ≡ l.first) ⊎ (l.at % pages_of_entry f l.level ≡ 0);
      stays : Stays g.H.Holder.space g.H.Holder.aside g.H.Holder.alone l.initial.holder l.holder;
      sweeps : SweepsBelow f g.H.Holder.tells (g.H.Holder.alone l.initial.holder) l.first l.at l.level (g.H.Holder.view l.initial.holder) (g.H.Holder.view l.holder) l.pages;
    }

abbrev pub decreases-sweep-loop-at : goal.decreases-sweep-loop-at
decreases-sweep-loop-at g l = l.end - l.at

use Rattle.std.proofs.Common.{◌-◌}
use Rattle.pt_view.specs.Views.{Stays}
use Rattle.pt_sweep.proofs.RootRaised.{RaisesTo}
use Rattle.pt_sweep.proofs.root.raise.Given as goal

abbrev pub invariant-loop-level : goal.invariant-loop-level
invariant-loop-level g l = record {
  stays : Stays g.H.Holder.space g.H.Holder.aside g.H.Holder.alone l.initial.holder l.holder;
  raises : RaisesTo g.F.Format.layout g.H.Holder.tells (g.H.Holder.alone l.initial.holder) (g.H.Holder.view l.initial.holder) (g.H.Holder.view l.holder) l.fn.root l.fn.top l.level;
}

abbrev pub decreases-loop-level : goal.decreases-loop-level
decreases-loop-level g l = l.top - l.level

use Rattle.std.proofs.Common.{◌≡◌}
use Rattle.pt_view.specs.declared.view.View.{View}
use Rattle.pt_view.proofs.Paths.{up}
use Rattle.pt_view.specs.Views.{Stays}
use Rattle.pt_walk.proofs.range.climb.Given as goal

abbrev pub invariant-loop-left : goal.invariant-loop-left
invariant-loop-left g l =
    let v : View = g.H.Holder.view l.initial.holder in
    record {
      stays : Stays g.H.Holder.space g.H.Holder.aside g.H.Holder.alone l.initial.holder l.holder;
      left : g.H.Holder.view l.holder ≡ record v { path = up l._left v.path };
    }

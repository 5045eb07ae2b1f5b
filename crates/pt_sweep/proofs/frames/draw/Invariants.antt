use Rattle.std.proofs.Common.{ℕ, ◌<◌, ◌≤◌}
use Rattle.std.specs.Prelude.{min}
use Rattle.pt_view.specs.declared.view.View.{View}
use Rattle.pt_view.specs.Lists.{IsIn}
use Rattle.pt_view.specs.Calls.{FillsSpace, HasEveryFrame}
use Rattle.pt_walk.specs.Walks.{Rests}
use Rattle.pt_sweep.specs.Draws.{Gains, GainsInOrder, OnlyTakes}
use Rattle.pt_sweep.proofs.Drawn.{Told}
use Rattle.pt_view.specs.Views.{Stays}
use Rattle.pt_sweep.proofs.frames.draw.Given as goal

abbrev pub invariant-loop-frame : goal.invariant-loop-frame
invariant-loop-frame g l =
    let v : View = g.H.Holder.view l.initial.holder in
    let w : View = g.H.Holder.view l.holder in
    record {
      stays : Stays g.H.Holder.space g.H.Holder.aside g.H.Holder.alone l.initial.holder l.holder;
      only : OnlyTakes g.H.Holder.tells v w;
      rest : Rests g.F.Format.layout v → Rests g.F.Format.layout w;
      most : l.taken ≤ l.fn.count;
      purse : Gains v.purse w.purse l.taken;
      order : GainsInOrder (min l.frame v.frames) v.purse w.purse;
      busy : (x : ℕ) → IsIn v.busy x → IsIn w.busy x;
      every : (x : ℕ) → x < l.frame → IsIn w.busy x;
      told : g.H.Holder.tells → Told l.frame v w;
      all : g.H.Holder.alone l.initial.holder → HasEveryFrame w → FillsSpace w (g.H.Holder.aside l.holder);
    }

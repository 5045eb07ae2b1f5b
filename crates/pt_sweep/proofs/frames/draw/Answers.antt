use Rattle.std.proofs.Common.{◌≡◌, ℕ, ◌+◌, List, inl, inr, [], refl, sym, subst, arith}
use Rattle.std.specs.Prelude.{min}
use Rattle.pt_sweep.specs.Draws.{GainsInOrder}
use mathlib.Core.Logic.{dite}
use native.Mathlib.Decide.{ℕ_discrete}
use Rattle.pt_view.specs.declared.view.View.{View}
use Rattle.pt_sweep.proofs.Drawn.{Told, fall_wider, gains_one, gains_more, only_here, only_on, order_more, told_none, told_more}
use Rattle.pt_view.proofs.Stays.{stays_here, stays_on}
use Rattle.pt_sweep.proofs.frames.draw.Goals as goal

pub loop-frame-init : goal.loop-frame-init
loop-frame-init g c =
    let v : View = g.H.Holder.view c.args.holder.now in
    record {
      stays = stays_here;
      only = only_here;
      rest = λ rests. rests;
      most = omega arith;
      purse = ([], refl, refl);
      order = ([], refl, tt);
      busy = λ x h. h;
      every = c.known_taken-frame.ensures.taken;
      told = λ told. subst (λ (n : ℕ). Told n v v) (sym (c.known_taken-frame.ensures.told told)) (told_none v);
      all = c.known_taken-frame.ensures.all;
    }

pub loop-frame-preserved : goal.loop-frame-preserved
loop-frame-preserved g c =
    let u : View = g.H.Holder.view c.args.holder.now in
    let v : View = g.H.Holder.view c.loop-frame.holder in
    let w : View = g.H.Holder.view c.try_one-taken.new.holder in
    let i = c.loop-frame.invariant in
    let t = c.try_one-taken.ensures in
    let tells = g.H.Holder.tells in
    let frame = c.loop-frame.frame in
    let won = c.try_one-taken.result in
    let most = i.most in
    let one = t.one in
    record {
      stays = stays_on i.stays t.stays;
      only = only_on i.only t.only;
      rest = λ rests. t.rest (i.rest rests);
      most = (let n = c.if-taken-count.false in omega arith);
      purse = gains_more u.purse v.purse w.purse c.loop-frame.taken won i.purse (gains_one tells frame won v w one t.takes);
      order =
          let less = c.loop-frame-test.true in
          let frames = c.frames-frame-end.ensures.count in
          let here : min frame u.frames ≡ frame = omega arith in
          let next : frame + 1 ≡ min (frame + 1) u.frames = omega arith in
          subst (λ (n : ℕ). GainsInOrder n u.purse w.purse) next
          (order_more tells frame won u v w one t.takes (subst (λ (n : ℕ). GainsInOrder n u.purse v.purse) here i.order));
      busy = λ x h. (t.busy x).1 (inr (i.busy x h));
      every = λ x less. (t.busy x).1 (dite (ℕ_discrete x c.loop-frame.frame) (λ e. inl e) (λ ne. inr (i.every x (omega arith))));
      told = λ told. told_more tells frame won u v w one t.takes told (i.told told);
      all = λ a every. t.all (i.stays.still_alone a) every;
    }

-- the frames that were taken fall below all frames
in_order : (frames frame : ℕ) (old new : List ℕ) → GainsInOrder (min frame frames) old new → GainsInOrder frames old new
in_order frames frame old new o = (o.0, o.1, fall_wider (min frame frames) frames o.0 (omega arith) o.2)

pub returns-then-taken-count-clause-order : goal.returns-then-taken-count-clause-order
returns-then-taken-count-clause-order g c =
    in_order (g.H.Holder.view c.args.holder.now).frames c.loop-frame.frame (g.H.Holder.view c.args.holder.now).purse (g.H.Holder.view c.loop-frame.holder).purse c.loop-frame.invariant.order

pub returns-after-loop-frame-clause-order : goal.returns-after-loop-frame-clause-order
returns-after-loop-frame-clause-order g c =
    in_order (g.H.Holder.view c.args.holder.now).frames c.loop-frame.frame (g.H.Holder.view c.args.holder.now).purse (g.H.Holder.view c.loop-frame.holder).purse c.loop-frame.invariant.order

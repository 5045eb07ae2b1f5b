use Rattle.std.proofs.Common.{◌≡◌, ap, arith}
use Rattle.std.specs.Prelude.{length}
use Rattle.pt_view.specs.declared.view.View.{View}
use Rattle.pt_view.proofs.Paths.{length_up, up}
use Rattle.pt_walk.proofs.Climbs.{climbed, up_more}
use Rattle.pt_view.proofs.Stays.{stays_on}
use Rattle.pt_walk.proofs.range.climb.Goals as goal

pub leave-requires : goal.leave-requires
leave-requires g c =
    let v : View = g.H.Holder.view c.args.holder.now in
    let e : length (g.H.Holder.view c.loop-left.holder).path ≡ length (up c.loop-left._left v.path) = ap (λ (y : View). length y.path) c.loop-left.invariant.left in
    let l = length_up c.loop-left._left v.path in
    omega (arith, c.requires, e, l)

pub loop-left-preserved : goal.loop-left-preserved
loop-left-preserved g c =
    let v : View = g.H.Holder.view c.args.holder.now in
    let i = c.loop-left.invariant in
    let e = c.leave.ensures in
    record {
      stays = stays_on i.stays e.stays;
      left = up_more v c.loop-left._left v.path i.left e.left;
    }

pub returns-clause-left : goal.returns-clause-left
returns-clause-left g c = λ front nodes split many.
    let past = c.loop-left-test.false in
    let before = c.loop-left.auto._left-end in
    climbed (g.H.Holder.view c.args.holder.now) (g.H.Holder.view c.loop-left.holder) c.loop-left._left c.loop-left.invariant.left front nodes split (omega arith)

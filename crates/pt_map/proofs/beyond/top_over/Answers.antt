use Rattle.std.proofs.Common.{◌+◌, arith}
use Rattle.pt_model.proofs.Tops.{reaches_top, top_low}
use Rattle.pt_map.proofs.PastRoot.{above_reach, last_reaches}
use Rattle.pt_map.proofs.beyond.top_over.Goals as goal

pub loop-top-init : goal.loop-top-init
loop-top-init g c = let low = top_low g.F.Format.layout (c.args.root + 1) c.args.end in record { from = omega arith; below = c.requires.root; to = omega arith }

pub loop-top-preserved : goal.loop-top-preserved
loop-top-preserved g c =
    let f = g.F.Format.layout in
    let i = c.loop-top.invariant in let from = i.from in let below = i.below in
    let e = c.spine_end.ensures in let more = c.loop-top-test.true in let few = c.requires.few in
    let up = above_reach f (c.args.root + 1) c.args.end c.loop-top.top below (omega arith) in
    let last = last_reaches f c.args.end c.loop-top.top below c.requires.within (omega arith) in
    record { from = omega arith; below = omega arith; to = omega arith }

pub returns : goal.returns
returns g c =
    let f = g.F.Format.layout in
    let i = c.loop-top.invariant in let from = i.from in let to = i.to in
    let e = c.spine_end.ensures in let stop = c.loop-top-test.false in let few = c.requires.few in
    let most = reaches_top f (c.args.root + 1) c.args.end c.loop-top.top (omega arith) (omega arith) in
    omega arith

use Rattle.pt_laws.specs.Covers as covers
use Rattle.pt_reply.specs.Running.{stand_in}
use Rattle.pt_reply.proofs.MapFacts.{loads_leave}
use Rattle.pt_reply.proofs.commands.look_up.Goals as goal

pub returns-in-Ok-Some-clause-leaves : goal.returns-in-Ok-Some-clause-leaves
returns-in-Ok-Some-clause-leaves g c =
    let v = g.H.Holder.view c.args.holder.now in
    let w = g.H.Holder.view c.lookup.new.holder in
    covers.lookup c.args.va (stand_in v) (stand_in w) _ (loads_leave v w c.lookup.ensures.walked)

pub returns-in-Ok-None-clause-leaves : goal.returns-in-Ok-None-clause-leaves
returns-in-Ok-None-clause-leaves g c =
    let v = g.H.Holder.view c.args.holder.now in
    let w = g.H.Holder.view c.lookup.new.holder in
    covers.lookup c.args.va (stand_in v) (stand_in w) _ (loads_leave v w c.lookup.ensures.walked)

pub returns-in-Err-clause-leaves : goal.returns-in-Err-clause-leaves
returns-in-Err-clause-leaves g c =
    let v = g.H.Holder.view c.args.holder.now in
    let w = g.H.Holder.view c.lookup.new.holder in
    covers.lookup c.args.va (stand_in v) (stand_in w) _ (loads_leave v w c.lookup.ensures.walked)

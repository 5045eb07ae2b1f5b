use Rattle.pt_view.specs.declared.view.View.{View}
use Rattle.pt_reply.specs.Running.{blocks_of}
use Rattle.pt_reply.proofs.DumpFacts.{dumps_as, dumps_leave, uncrossed_from, uncrossed_to}
use Rattle.pt_reply.proofs.commands.dump_all.Goals as goal

pub dump-requires-clause-from : goal.dump-requires-clause-from
dump-requires-clause-from g c =
    let v : View = g.H.Holder.view c.args.holder.now in
    let r = c.range-span.ensures in
    uncrossed_from g.F.Format.layout v (r.lawful (blocks_of v.pieces) c.requires.ready) c.range-span.result.first c.range-span.result.count r.first r.count

pub dump-requires-clause-to : goal.dump-requires-clause-to
dump-requires-clause-to g c =
    let v : View = g.H.Holder.view c.args.holder.now in
    let r = c.range-span.ensures in
    uncrossed_to g.F.Format.layout v (r.lawful (blocks_of v.pieces) c.requires.ready) c.range-span.result.first c.range-span.result.count r.first r.count

pub returns-clause-dumps : goal.returns-clause-dumps
returns-clause-dumps g c =
    let r = c.range-span.ensures in
    dumps_as g.F.Format.layout (g.H.Holder.view c.args.holder.now) (g.H.Holder.view c.dump.new.holder) c.range-span.result.first c.range-span.result.count
    r.first r.count c.dump.ensures.rests c.dump.result c.dump.ensures.dumps

pub returns-clause-leaves : goal.returns-clause-leaves
returns-clause-leaves g c = dumps_leave g.F.Format.layout (g.H.Holder.view c.args.holder.now) (g.H.Holder.view c.dump.new.holder) c.dump.ensures.rests c.dump.result

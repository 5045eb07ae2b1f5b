use Rattle.std.proofs.Common.{Some, ap, ◌∙◌}
use Rattle.pt_sweep.specs.Unmaps.{refusal_of}
use Rattle.pt_view.specs.Views.{book_of}
use Rattle.pt_reply.specs.Running.{blocks_of}
use Rattle.pt_laws.specs.Covers as covers
use Rattle.pt_model.specs.declared.reply.UnmapAnswer.TheVariants as unmapping
use Rattle.pt_reply.specs.Running.{stand_in}
use Rattle.pt_reply.proofs.MapFacts.{loads_leave}
use Rattle.pt_reply.proofs.UnmapFacts.{cut_is_legal, leaves_gone, unmaps}
use Rattle.pt_reply.proofs.commands.unmap_range.Goals as goal

pub returns-in-Ok-clause-unmaps : goal.returns-in-Ok-clause-unmaps
returns-in-Ok-clause-unmaps g c =
    let v = g.H.Holder.view c.args.holder.now in
    let done = c.in-Ok.ensures.answered (blocks_of v.pieces) c.requires.ready in
    unmaps g.F.Format.layout v (g.H.Holder.view c.unmap.new.holder) c.requires.ready c.args.va c.args.len _ _ c.in-Ok.pages done.0 done.1

pub returns-in-Err-CutsEntry-clause-legal : goal.returns-in-Err-CutsEntry-clause-legal
returns-in-Err-CutsEntry-clause-legal g c =
    let f = g.F.Format.layout in
    let v = g.H.Holder.view c.args.holder.now in
    let blocks = blocks_of v.pieces in
    let rest = c.requires.ready in
    let cut = c.in-Err-CutsEntry.ensures.answered.refusal blocks rest ∙ ap (λ e. Some (refusal_of e)) c.in-Err-CutsEntry.field-0-is in
    record {
      legal = cut_is_legal f (book_of v blocks) c.args.va c.args.len c.in-Err-CutsEntry.block (c.range-span.ensures.lawful blocks rest).legal cut;
      small = c.requires.small;
    }

pub returns-in-Ok-clause-leaves : goal.returns-in-Ok-clause-leaves
returns-in-Ok-clause-leaves g c =
    let v = g.H.Holder.view c.args.holder.now in
    let done = c.in-Ok.ensures.answered (blocks_of v.pieces) c.requires.ready in
    leaves_gone g.F.Format.layout v (g.H.Holder.view c.unmap.new.holder) c.requires.ready c.args.va c.args.len _ _ c.in-Ok.pages done.1

pub returns-in-Err-Misaligned-clause-leaves : goal.returns-in-Err-Misaligned-clause-leaves
returns-in-Err-Misaligned-clause-leaves g c =
    let v = g.H.Holder.view c.args.holder.now in
    let w = g.H.Holder.view c.unmap.new.holder in
    covers.unmap c.args.va c.args.len (stand_in v) (stand_in w) unmapping.Misaligned (loads_leave v w c.in-Err-Misaligned.ensures.answered.loads)

pub returns-in-Err-OutsideLease-clause-leaves : goal.returns-in-Err-OutsideLease-clause-leaves
returns-in-Err-OutsideLease-clause-leaves g c =
    let v = g.H.Holder.view c.args.holder.now in
    let w = g.H.Holder.view c.unmap.new.holder in
    covers.unmap c.args.va c.args.len (stand_in v) (stand_in w) unmapping.Outside (loads_leave v w c.in-Err-OutsideLease.ensures.answered.loads)

pub returns-in-Err-CutsEntry-clause-leaves : goal.returns-in-Err-CutsEntry-clause-leaves
returns-in-Err-CutsEntry-clause-leaves g c =
    let v = g.H.Holder.view c.args.holder.now in
    let w = g.H.Holder.view c.unmap.new.holder in
    covers.unmap c.args.va c.args.len (stand_in v) (stand_in w) (unmapping.Cuts c.in-Err-CutsEntry.block) (loads_leave v w c.in-Err-CutsEntry.ensures.answered.loads)

use Rattle.std.proofs.Common.{sym, subst}
use Rattle.pt_model.specs.declared.block.Block.{Block}
use Rattle.pt_view.specs.declared.view.View.{View}
use Rattle.pt_map.specs.Filled.{MayStoreRun, StoresRun}
use Rattle.pt_map.proofs.replace.replace_entry.Goals as goal

pub write_entry-requires-clause-may : goal.write_entry-requires-clause-may
write_entry-requires-clause-may g c =
    let between : View = g.H.Holder.view c.unlink_replaced.new.holder in
    subst (λ (b : Block). MayStoreRun g.F.Format.layout between 1 b c.args.level) (sym c.block.ensures) (c.requires.may _ c.unlink_replaced.ensures.unlinks)

pub returns-clause-puts : goal.returns-clause-puts
returns-clause-puts g c =
    let between : View = g.H.Holder.view c.unlink_replaced.new.holder in
    record {
      between = between;
      unlinks = c.unlink_replaced.ensures.unlinks;
      stored = subst (λ (b : Block). StoresRun g.F.Format.layout g.H.Holder.tells between (g.H.Holder.view c.write_entry.new.holder) 1 b) c.block.ensures c.write_entry.ensures.stored;
    }

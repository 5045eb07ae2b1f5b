use Rattle.std.proofs.Common.{sym, subst}
use Rattle.pt_model.specs.declared.block.Block.{Block}
use Rattle.pt_view.specs.declared.view.View.{View}
use Rattle.pt_map.specs.Filled.{MayStoreRun, StoresRun}
use Rattle.pt_map.proofs.WayMade.{none_unlinked}
use Rattle.pt_map.proofs.replace.put_entry.Goals as goal

pub write_entry-requires-clause-may : goal.write_entry-requires-clause-may
write_entry-requires-clause-may g c =
    let v : View = g.H.Holder.view c.args.holder.now in
    subst (λ (b : Block). MayStoreRun g.F.Format.layout v 1 b c.args.level) (sym c.block.ensures) (c.requires.may _ (none_unlinked _ (c.requires.none c.if-tables.false)))

pub returns-else-tables-clause-puts : goal.returns-else-tables-clause-puts
returns-else-tables-clause-puts g c =
    let v : View = g.H.Holder.view c.args.holder.now in
    record {
      between = v;
      unlinks = none_unlinked _ (c.requires.none c.if-tables.false);
      stored = subst (λ (b : Block). StoresRun g.F.Format.layout g.H.Holder.tells v (g.H.Holder.view c.write_entry.new.holder) 1 b) c.block.ensures c.write_entry.ensures.stored;
    }

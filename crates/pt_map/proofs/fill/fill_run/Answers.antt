use Rattle.std.proofs.Common.{◌≡◌, ℕ, ◌+◌, ◌*◌, ◌%◌, ◌^◌, [], ap, sym, ◌∙◌, subst, arith}
use Rattle.pt_model.specs.declared.block.Block.{Block}
use Rattle.pt_view.specs.declared.view.View.{View}
use Rattle.pt_tile.proofs.RunTilings.{run_shifted}
use Rattle.pt_map.specs.Filled.{MayStoreRun, StoresRun}
use Rattle.pt_map.proofs.FillTurns.{fills_run, may_run, none_below, run_leaves}
use Rattle.pt_map.proofs.fill.fill_run.Given.{Over}
use Rattle.pt_map.proofs.fill.fill_run.Goals as goal
use Rattle.pt_map.proofs.fill.fill_run.Goals.{Start}

-- the page after the run, as the code makes it
to : (g : Over) (c : Start g) → c.args.extent.end ≡ c.args.extent.first + c.args.count * 2 ^ c.args.log2 % 2 ^ 64
to g c =
    let r = c.requires.run in
    r.whole ∙ ap (λ (j : ℕ). c.args.extent.first + c.args.count * 2 ^ j) r.size ∙ sym (run_shifted g.met.F.Format.lawful_layout c.requires.may.stands.at.extent r.run c.args.log2 r.size)

pub word_run-run-requires-clause-leaves : goal.word_run-run-requires-clause-leaves
word_run-run-requires-clause-leaves g c =
    let r = c.requires.run in run_leaves g.met.F.Format.lawful_layout c.requires.may c.args.log2 r.size r.high r.run

-- all of its blocks are stored by one call
pub write_run-requires-clause-may : goal.write_run-requires-clause-may
write_run-requires-clause-may g c =
    let r = c.requires.run in
    let v : View = g.H.Holder.view c.args.holder.now in
    subst (λ (n : ℕ). MayStoreRun g.F.Format.layout v n c.block.result c.args.level) (sym c.if-run-count.true)
    (subst (λ (b : Block). MayStoreRun g.F.Format.layout v c.args.count b c.args.level) (sym c.block.ensures)
    (may_run g.met.F.Format.lawful_layout c.requires.may c.args.log2 r.size r.high r.run))

pub returns-then-run-count-clause-fills : goal.returns-then-run-count-clause-fills
returns-then-run-count-clause-fills g c =
    let r = c.requires.run in
    let v : View = g.H.Holder.view c.args.holder.now in
    let w : View = g.H.Holder.view c.write_run.new.holder in
    fills_run g.met.F.Format.lawful_layout c.requires.may c.args.log2 r.size r.high r.run c.args.extent.end (to g (goal.at.returns-then-run-count-clause-fills g c).Start)
    (subst (λ (b : Block). StoresRun g.F.Format.layout g.H.Holder.tells v w c.args.count b) c.block.ensures
    (subst (λ (n : ℕ). StoresRun g.F.Format.layout g.H.Holder.tells v w n c.block.result) c.if-run-count.true c.write_run.ensures.stored))

-- it needs no table below the level
pub fill-requires : goal.fill-requires
fill-requires g c =
    let r = c.requires.run in
    record {
      store = c.requires.may;
      lacking = [];
      room = record {
        each = λ p h. absurd (none_below g.met.F.Format.lawful_layout c.requires.may c.args.log2 r.size r.high r.run c.args.extent.end (to g (goal.at.fill-requires g c).Start) p h);
        frames = omega arith;
      };
    }

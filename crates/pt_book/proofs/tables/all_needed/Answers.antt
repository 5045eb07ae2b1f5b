use Rattle.pt_book.proofs.PositionFacts.{needed_more}
use Rattle.pt_book.proofs.tables.all_needed.Goals as goal

pub loop-block-preserved : goal.loop-block-preserved
loop-block-preserved g c =
    needed_more g.F.Format.layout c.args.levels c.loop-block.list.items _ _ c.args.blocks.now c.loop-block.block-index _ c.loop-block-test.true c.loop-block.invariant.0 c.in_ok-add_needed.ensures c.loop-block.invariant.1

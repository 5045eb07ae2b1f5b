use Rattle.std.proofs.Common.{◌+◌, ap, ◌∙◌, arith}
use Rattle.pt_model.specs.Tables.{add_position, position_over}
use Rattle.pt_book.proofs.PositionFacts.{level_more}
use Rattle.pt_book.proofs.tables.add_over.Goals as goal

pub loop-level-preserved : goal.loop-level-preserved
loop-level-preserved g c =
    let over = position_over g.F.Format.layout c.args.page in
    level_more over (c.args.high + 1) c.loop-level.level c.loop-level.list.items _ _ (omega arith) c.loop-level.invariant.0
    (c.in_ok-add_position.ensures ∙ ap (add_position c.loop-level.list.items) c.position_over.ensures)
    c.loop-level.invariant.1

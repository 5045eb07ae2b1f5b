use Rattle.std.proofs.Common.{ap, sym, ◌∙◌, Vec, Global}
use Rattle.std.specs.Prelude.{not}
use Rattle.pt_model.specs.declared.position.Position.{Position}
use Rattle.pt_model.specs.Tables.{is_spine}
use Rattle.pt_book.proofs.PositionFacts.{passed, failed}
use Rattle.pt_book.proofs.tables.add_off_spine.Goals as goal
use Rattle.pt_book.proofs.tables.add_off_spine.Goals.{then-not-is_spine+in_ok-add_position, else-not-is_spine}

pub loop-position-preserved : goal.loop-position-preserved
loop-position-preserved c =
    let ps = c.loop-position.list.items in
    let inv = c.loop-position.invariant in
    elim c.if-not-is_spine.branch [
      | then-not-is_spine+in_ok-add_position w ↦
          passed (λ p. not (is_spine c.args.levels p)) ps c.args.needed.now _ _ c.loop-position.position-index _ c.loop-position-test.true inv.0 (ap not (sym w.if-not-is_spine.ensures))
          (ap (λ (v : Vec Position Global). v.items) w.list-is ∙ w.in_ok-add_position.ensures)
          inv.1
      | else-not-is_spine w ↦
          failed (λ p. not (is_spine c.args.levels p)) ps c.args.needed.now _ _ c.loop-position.position-index _ c.loop-position-test.true inv.0 (ap not (sym w.if-not-is_spine.ensures))
          (ap (λ (v : Vec Position Global). v.items) w.list-is)
          inv.1
    ]

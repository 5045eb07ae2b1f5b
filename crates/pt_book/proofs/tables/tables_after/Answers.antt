use Rattle.std.proofs.Common.{List, subst, sym}
use Rattle.pt_model.specs.declared.position.Position.{Position}
use Rattle.pt_model.specs.Sets.{IsSorted}
use Rattle.pt_model.proofs.Positions.{sorted_filter}
use Rattle.pt_book.proofs.tables.tables_after.Goals as goal

pub add_off_spine-requires-clause-in_order : goal.add_off_spine-requires-clause-in_order
add_off_spine-requires-clause-in_order g c =
    subst (λ (xs : List Position). IsSorted xs) (sym c.in_ok-list.ensures) (sorted_filter _ c.args.old.now c.requires.in_order)

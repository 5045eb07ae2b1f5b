use Rattle.std.proofs.Common.{◌≡◌, ◌+◌, ◌-◌}
use Rattle.std.specs.Prelude.{map}
use Rattle.std.specs.List.{range_with_len}
use Rattle.pt_model.specs.Tables.{add_positions, position_over}
use Rattle.pt_model.specs.Sets.{IsSorted}
use Rattle.pt_book.proofs.tables.add_over.Given as goal

-- the list with the positions of the levels that are left is the old one with those of all levels
abbrev pub invariant-loop-level : goal.invariant-loop-level
invariant-loop-level g l =
    let over = position_over g.F.Format.layout l.page in
    IsSorted l.list.items
    × (add_positions l.list.items (map over (range_with_len l.level (l.high + 1 - l.level)))
    ≡ add_positions l.initial.list.items (map over (range_with_len l.low (l.high + 1 - l.low))))

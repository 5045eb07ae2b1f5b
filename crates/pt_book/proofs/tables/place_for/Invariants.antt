use Rattle.std.proofs.Common.{◌≡◌, ◌<◌, length, get_or, true}
use Rattle.pt_model.specs.declared.position.Position.{Position}
use Rattle.pt_model.specs.Tables as tables
use Rattle.pt_book.proofs.tables.place_for.Given as goal

-- the position is before the next item
abbrev pub invariant-loop-last : goal.invariant-loop-last
invariant-loop-last l =
    (d : Position) → l.last < length l.list → tables.is_before l.position (get_or l.list l.last d) ≡ true

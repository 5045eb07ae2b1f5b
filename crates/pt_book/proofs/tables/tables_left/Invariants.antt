use Rattle.std.proofs.Common.{◌≡◌, ◌++◌, drop}
use Rattle.std.specs.Prelude.{filter, not}
use Rattle.pt_model.specs.Book.{table_lies_in}
use Rattle.pt_book.proofs.tables.tables_left.Given as goal

-- those that stay and those that pass among what is left are all that pass
abbrev pub invariant-loop-position : goal.invariant-loop-position
invariant-loop-position g l =
    let f = g.F.Format.layout in
    l.left.items ++ filter (λ p. not (table_lies_in f l.first l.last p)) (drop l.position-index l.list)
    ≡ filter (λ p. not (table_lies_in f l.first l.last p)) l.list

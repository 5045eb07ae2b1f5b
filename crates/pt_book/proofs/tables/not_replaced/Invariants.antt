use Rattle.std.proofs.Common.{◌≡◌, ◌++◌, drop}
use Rattle.std.specs.Prelude.{filter, not}
use Rattle.std.specs.List.{list_any}
use Rattle.pt_model.specs.Layout.{end_of}
use Rattle.pt_model.specs.Book.{table_lies_in}
use Rattle.pt_book.proofs.tables.not_replaced.Given as goal

-- those kept and those that pass among what is left are all that pass
abbrev pub invariant-loop-position : goal.invariant-loop-position
invariant-loop-position g l =
    let f = g.F.Format.layout in
    l.kept.items ++ filter (λ p. not (list_any (λ b. table_lies_in f b.first (end_of b) p) l.blocks)) (drop l.position-index l.list)
    ≡ filter (λ p. not (list_any (λ b. table_lies_in f b.first (end_of b) p) l.blocks)) l.list

use Rattle.std.proofs.Common.{◌≡◌, drop}
use Rattle.std.specs.List.{list_any}
use Rattle.pt_model.specs.Layout.{end_of}
use Rattle.pt_model.specs.Book.{table_lies_in}
use Rattle.pt_book.proofs.tables.is_replaced.Given as goal

-- a block that has the table is among those that are left
abbrev pub invariant-loop-block : goal.invariant-loop-block
invariant-loop-block g l =
    let f = g.F.Format.layout in
    list_any (λ b. table_lies_in f b.first (end_of b) l.position) (drop l.block-index l.blocks)
    ≡ list_any (λ b. table_lies_in f b.first (end_of b) l.position) l.blocks

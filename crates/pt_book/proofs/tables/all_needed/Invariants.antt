use Rattle.std.proofs.Common.{◌≡◌, drop}
use Rattle.std.specs.Prelude.{fold}
use Rattle.pt_model.specs.Tables as tables
use Rattle.pt_model.specs.Sets.{IsSorted}
use Rattle.pt_book.proofs.tables.all_needed.Given as goal

-- what the blocks that are left need, put to the list, is what all need
abbrev pub invariant-loop-block : goal.invariant-loop-block
invariant-loop-block g l =
    let f = g.F.Format.layout in
    IsSorted l.list.items
    × (fold (λ ps b. tables.add_positions ps (tables.needed f l.levels b)) l.list.items (drop l.block-index l.blocks)
    ≡ tables.all_needed f l.levels l.blocks)

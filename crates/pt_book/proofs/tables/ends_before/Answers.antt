use Rattle.std.proofs.Common.{◌+◌, ◌*◌, ◌≤◌, sym, ◌∙◌, arith}
use Rattle.std.proofs.lemmas.Bool.{le-ltb}
use Rattle.pt_model.specs.Layout.{pages_of_table}
use Rattle.pt_book.proofs.PositionFacts.{past_numbers}
use Rattle.pt_book.proofs.tables.ends_before.Goals as goal

pub returns-else-log2-lt64 : goal.returns-else-log2-lt64
returns-else-log2-lt64 g c =
    let f = g.F.Format.layout in
    let high : 64 ≤ c.INDEX.result * (c.args.level + 1) = omega arith in
    let past = past_numbers f c.INDEX.result c.args.level (c.INDEX.ensures ∙ sym g.met.F.Format.has_constants.index_is) high in
    le-ltb (c.INDEX.result * (c.args.level + 1)) 64 high ∙ sym (le-ltb (pages_of_table f c.args.level) c.args.last (omega arith))

use Rattle.std.proofs.Common.{◌≡◌, ◌+◌, ◌*◌, ◌^◌, ◌≤◌, ap₂, sym, ◌∙◌, arith}
use Rattle.pt_model.proofs.Tops.{power_mono}
use Rattle.pt_book.proofs.PositionFacts.{lies_past}
use Rattle.pt_book.proofs.tables.lies_among.Goals as goal

pub returns-then-log2-ge64 : goal.returns-then-log2-ge64
returns-then-log2-ge64 g c =
    let f = g.F.Format.layout in
    let log2 = f.index * (c.args.position.level + 1) in
    let same : c.from.result * (c.from-2.result + 1) ≡ log2 =
    ap₂ (λ a b. a * (b + 1)) (c.from.ensures ∙ c.INDEX.ensures ∙ sym g.met.F.Format.has_constants.index_is) c.from-2.ensures in
    let wide : 2 ^ 64 ≤ 2 ^ log2 = power_mono 64 log2 (omega (arith, same)) in
    lies_past c.args.first c.args.last c.args.position.base (2 ^ log2) (omega (arith, wide))

use Rattle.std.proofs.Common.{◌+◌, ◌*◌, ◌<◌, ℕ, sym, subst}
use Rattle.pt_format.specs.Words.{HasSizes}
use Rattle.pt_tile.specs.Extents.{first_size}
use Rattle.pt_tile.proofs.RunsUnder.{page_first}
use Rattle.pt_tile.proofs.extent.Extent.size_at.Goals as goal

pub returns-then-sizes-eq1 : goal.returns-then-sizes-eq1
returns-then-sizes-eq1 g c =
    let f = g.F.Format.layout in
    let sizes : HasSizes f 0 1 = subst (λ (mask : ℕ). HasSizes f 0 mask) c.if-sizes-eq1.true c.sizes.ensures in
    let low : first_size f c.args.self < f.index * (0 + 1) = subst (λ (level : ℕ). first_size f c.args.self < f.index * (level + 1)) c.if-level-eq0.true c.requires.low in
    sym (page_first g.met.F.Format.lawful_layout c.requires.extent sizes low)

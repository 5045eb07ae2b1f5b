use Rattle.std.proofs.Common.{◌≡◌, ◌*◌, arith, ap, sym, ◌∙◌, ℕ}
use Rattle.std.proofs.lemmas.Bool.{leb-true, le-leb}
use Rattle.pt_tile.specs.Counting.{begun}
use Rattle.pt_tile.proofs.Tops.{above_is}
use Rattle.pt_tile.proofs.tables.is_above_top.Goals as goal

pub returns-then-level-levels : goal.returns-then-level-levels
returns-then-level-levels g c =
    let index : c.INDEX.result ≡ g.F.Format.layout.index = c.INDEX.ensures ∙ sym g.met.F.Format.has_constants.index_is in
    let number : c.begun.result ≡ begun (g.F.Format.layout.index * c.args.level) c.args.end =
    c.begun.ensures ∙ ap (λ (i : ℕ). begun (i * c.args.level) c.args.end) index in
    let is = above_is g.F.Format.layout c.args.levels c.args.end c.args.level c.requires.some (omega arith) c.requires.below in (
      (λ few. is.0 (omega (arith, number, leb-true c.begun.result 1 few))),
      (λ above. le-leb c.begun.result 1 (omega (arith, number, is.1 above))),
    )

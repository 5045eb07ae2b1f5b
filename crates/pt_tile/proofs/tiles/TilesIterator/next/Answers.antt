use Rattle.std.proofs.Common.{◌<◌, sym, ◌∙◌}
use Rattle.std.proofs.lemmas.Nat.{one_shl}
use Rattle.pt_model.proofs.TilingFacts.{tiling_first}
use Rattle.pt_tile.proofs.TileFacts.{step_is_size, progress}
use Rattle.pt_tile.proofs.tiles.TilesIterator.next.Goals as goal

pub returns-clause-steps : goal.returns-clause-steps
returns-clause-steps g c =
    let small : c.greatest_step-log2.result < 64 = c.greatest_step-log2.ensures.below in
    rw (one_shl c.greatest_step-log2.result 64 small)
    (sym c.self.view_is ∙ tiling_first g.F.Format.layout c.self.inside.prot c.self.inside.first c.self.inside.out c.self.inside.left
    c.greatest_step-log2.result g.met.F.Format.lawful_layout.has_pages c.self.invariant.0 c.self.invariant.1
    (step_is_size g.F.Format.layout c.self.inside.first c.self.inside.out c.self.inside.left c.self.inside.sizes
    c.greatest_step-log2.result c.self.invariant.2 c.self.invariant.0 c.self.invariant.1 c.greatest_step-log2.ensures.greatest))

pub returns-clause-goes : goal.returns-clause-goes
returns-clause-goes g c = progress _ _ _ (returns-clause-steps g c)

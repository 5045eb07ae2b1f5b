use Rattle.std.proofs.Common.{refl, arith}
use Rattle.pt_tile.proofs.FirstSizes.{size_small}
use Rattle.pt_tile.proofs.RunsUnder.{run_inside}
use Rattle.pt_tile.proofs.extent.Extent.run_under.Goals as goal

pub overflow_shr-sizes : goal.overflow_shr-sizes
overflow_shr-sizes g c = let small = size_small g.met.F.Format.lawful_layout c.requires.extent in let e = c.requires.first in omega arith

pub overflow_shr-result : goal.overflow_shr-result
overflow_shr-result g c = let small = size_small g.met.F.Format.lawful_layout c.requires.extent in let e = c.requires.first in omega arith

pub returns-then-sizes-log2-eq1 : goal.returns-then-sizes-log2-eq1
returns-then-sizes-log2-eq1 g c =
    run_inside g.met.F.Format.lawful_layout c.requires.extent c.args.level c.args.log2 c.sizes.result _ c.requires.first c.sizes.ensures
    c.if-sizes-log2-eq1.true c.requires.under refl

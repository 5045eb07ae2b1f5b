use Rattle.pt_tile.proofs.FirstSizes.{size_is}
use Rattle.pt_tile.proofs.extent.Extent.first_size.Goals as goal

pub returns : goal.returns
returns g c = size_is g.met.F.Format.lawful_layout c.requires c.all_sizes.result c.greatest_step.result c.all_sizes.ensures c.greatest_step.ensures.greatest

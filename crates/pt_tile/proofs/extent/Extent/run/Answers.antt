use Rattle.pt_tile.proofs.RunTilings.{run_is}
use Rattle.pt_tile.proofs.extent.Extent.run.Goals as goal

pub returns : goal.returns
returns g c =
    run_is g.F.Format.layout c.args.self c.args.log2 c.run_length.result c.requires.extent.some c.requires.first c.run_length.ensures.some c.run_length.ensures.within
    (c.run_length.ensures.run c.args.self.prot)

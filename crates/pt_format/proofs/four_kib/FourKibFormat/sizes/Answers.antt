use Rattle.pt_format.specs.FourKib.{tables}
use Rattle.pt_format.proofs.FourKibWords.{mask_is}
use Rattle.pt_format.proofs.four_kib.FourKibFormat.sizes.Goals as goal

pub returns : goal.returns
returns g c =
    mask_is (tables g.E.EntryBits.entries g.row.L g.E.FourKibTables.INPUT g.E.FourKibTables.walk)
    c.args.level c.sizes.result c.sizes.ensures.low c.sizes.ensures.high

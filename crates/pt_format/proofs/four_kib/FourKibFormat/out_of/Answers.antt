use Rattle.std.proofs.Common.{arith}
use Rattle.pt_format.proofs.FourKibWords.{leaf_within, output_is}
use Rattle.pt_format.proofs.four_kib.FourKibFormat.out_of.Goals as goal

pub out_under-requires : goal.out_under-requires
out_under-requires g c = omega (arith, c.requires.a_leaf.2.may.below, g.met.E.FourKibTables.are_tables.levels_high)

pub returns-clause-page : goal.returns-clause-page
returns-clause-page g c = rw c.out_under.ensures (output_is g.met.E.FourKibTables.are_tables c.args.level c.args.word c.args.page)

pub returns-clause-within : goal.returns-clause-within
returns-clause-within g c =
    let leaf = c.requires.a_leaf in
    rw c.out_under.ensures (leaf_within g.met.E.FourKibTables.are_tables c.args.level c.args.word c.args.page leaf.0 leaf.1 leaf.2)

use Rattle.pt_format.proofs.FourKibWords.{run_of, size_few}
use Rattle.pt_format.proofs.four_kib.FourKibFormat.word_run.Goals as goal

pub block_bytes-requires : goal.block_bytes-requires
block_bytes-requires g c = size_few g.met.E.FourKibTables.are_tables c.args._level c.args.log2 c.args._out c.args._prot c.args.count c.requires.some c.requires.leaves

pub returns-clause-run : goal.returns-clause-run
returns-clause-run g c =
    run_of g.met.E.FourKibTables.are_tables c.args._level c.args.log2 c.args._out c.args._prot c.args.count c.requires.some c.requires.leaves
    c.block_bytes.result c.block_bytes.ensures

use Rattle.pt_format.specs.FourKibLaws.{leaf_of_may}
use Rattle.pt_format.proofs.four_kib.FourKibFormat.prot_of.Goals as goal

pub returns : goal.returns
returns g c = λ log2 prot l. c.permission_in.ensures.of_leaf c.args._level l.out prot (leaf_of_may c.args.word l.may l.word_is)

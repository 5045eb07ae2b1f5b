use Rattle.fmt_amdv1.specs.AmdLaws.{leaf_of}
use Rattle.fmt_amdv1.proofs.instances.AmdV1Format.prot_of.Goals as goal

pub returns : goal.returns
returns c = λ log2 prot l. c.permission_in.ensures.of_leaf c.args._level log2 l.out prot (leaf_of l.may c.args.word l.word_is)

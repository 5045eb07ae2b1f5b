use Rattle.fmt_vmsa.specs.VmsaSizes.{entry_of}
use Rattle.fmt_vmsa.proofs.instances.VmsaFormat.prot_of.Goals as goal

pub returns : goal.returns
returns g c = λ log2 prot l.
    c.permission_in.ensures.of_leaf _ _ _ prot _ g.bound-1.is_granule (entry_of g.bound-1.is_granule l.may c.args.word l.word_is)

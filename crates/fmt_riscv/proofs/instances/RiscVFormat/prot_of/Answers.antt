use Rattle.fmt_riscv.specs.RiscvLaws.{a_single, a_sixteen, leaf_word}
use Rattle.fmt_riscv.proofs.instances.RiscVFormat.prot_of.Goals as goal

pub returns : goal.returns
returns g c = λ log2 prot l. elim (leaf_word g.bound-1.are_levels c.args._level log2 l.out l.part c.args.word prot l.may l.word_is).0 [
  | a_single s x ↦ c.permission_in.ensures.of_leaf.of_single c.args._level l.out prot x
  | a_sixteen z s x ↦ c.permission_in.ensures.of_leaf.of_sixteen l.out prot x
]

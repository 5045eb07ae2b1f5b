use Rattle.std.proofs.Common.{◌∙◌, sym}
use Rattle.fmt_riscv.proofs.RiscvCode.{leaf_by_read, pointer_by_read}
use Rattle.fmt_riscv.proofs.instances.RiscVFormat.is_leaf.Goals as goal

pub returns-clause-leaf : goal.returns-clause-leaf
returns-clause-leaf g c = λ set. leaf_by_read g.bound-1.are_levels c.args._level c.args.word (sym c.has_read.ensures ∙ set) c.requires.written

pub returns-clause-pointer : goal.returns-clause-pointer
returns-clause-pointer g c = λ clear.
    pointer_by_read g.bound-1.are_levels c.args._level c.args.word (λ set. clear (c.has_read.ensures ∙ set)) c.requires.written

use Rattle.fmt_riscv.proofs.RiscvCode.{single_run, sixteen_run, size_few}
use Rattle.fmt_riscv.proofs.instances.RiscVFormat.word_run.Goals as goal

pub step-requires : goal.step-requires
step-requires g c = size_few g.bound-1.are_levels c.args._level c.args.log2 c.args._out c.args._prot c.args.count c.requires.some c.requires.leaves

pub returns-then-log2-eq4-clause-run : goal.returns-then-log2-eq4-clause-run
returns-then-log2-eq4-clause-run g c =
    sixteen_run g.bound-1.are_levels c.args._level c.args.log2 c.args._out c.args._prot c.args.count c.requires.some c.requires.leaves c.if-log2-eq4.true

pub returns-else-log2-eq4-clause-run : goal.returns-else-log2-eq4-clause-run
returns-else-log2-eq4-clause-run g c =
    single_run g.bound-1.are_levels c.args._level c.args.log2 c.args._out c.args._prot c.args.count c.requires.some c.requires.leaves
    c.if-log2-eq4.false c.step.result c.step.ensures

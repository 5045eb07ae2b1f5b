use Rattle.fmt_amdv1.proofs.AmdCode.{coded_run, default_run}
use Rattle.fmt_amdv1.proofs.instances.AmdV1Format.word_run.Goals as goal

pub returns-then-log2-level-clause-run : goal.returns-then-log2-level-clause-run
returns-then-log2-level-clause-run c =
    default_run c.args.level c.args.log2 c.args._out c.args._prot c.args.count c.requires.some c.requires.leaves
    c.if-log2-level.true c.block_bytes.result c.block_bytes.ensures

pub returns-else-log2-level-clause-run : goal.returns-else-log2-level-clause-run
returns-else-log2-level-clause-run c =
    coded_run c.args.level c.args.log2 c.args._out c.args._prot c.args.count c.requires.some c.requires.leaves

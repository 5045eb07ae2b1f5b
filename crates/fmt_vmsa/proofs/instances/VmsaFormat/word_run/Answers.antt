use Rattle.fmt_vmsa.proofs.VmsaCode.{entries_run, run_level}
use Rattle.fmt_vmsa.proofs.instances.VmsaFormat.word_run.Goals as goal

pub entry_bytes-requires-clause-a_level : goal.entry_bytes-requires-clause-a_level
entry_bytes-requires-clause-a_level g c =
    run_level g.bound-1.is_granule c.args.level c.args._log2 c.args._out c.args._prot c.args.count c.requires.some c.requires.leaves

pub returns-clause-run : goal.returns-clause-run
returns-clause-run g c =
    rw (c.entry_bytes.ensures, c.LOG2.ensures)
    (entries_run g.bound-1.is_granule c.args.level c.args._log2 c.args._out c.args._prot c.args.count c.requires.some c.requires.leaves)

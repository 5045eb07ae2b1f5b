use Rattle.std.proofs.Common.{arith}
use Rattle.pt_reply.proofs.DumpFacts.{listed_full}
use Rattle.pt_reply.proofs.commands.list_block.Goals as goal

pub returns-else-len-lt-DUMP_LIMIT-clause-next : goal.returns-else-len-lt-DUMP_LIMIT-clause-next
returns-else-len-lt-DUMP_LIMIT-clause-next c =
    let full = c.if-len-lt-DUMP_LIMIT.false in
    let len = c.len.ensures in
    listed_full c.args.lowest.now.items c.args.block (omega arith)

use Rattle.std.proofs.Common.{arith}
use Rattle.pt_book.proofs.ListFacts.{small_power}
use Rattle.pt_book.proofs.lists.crosses.Goals as goal

pub overflow_shl-result : goal.overflow_shl-result
overflow_shl-result c = small_power c.args.block.log2 64 (omega (arith, c.requires))

use Rattle.std.proofs.Common.{◌-◌, arith}
use Rattle.std.proofs.lemmas.Nat.{one_shl, pow_pos}
use Rattle.fmt_amdv1.specs.AmdFacts.{halves}
use Rattle.fmt_amdv1.proofs.words.leaf_word.Goals as goal

pub word_of-requires-else-log2-level-clause-number : goal.word_of-requires-else-log2-level-clause-number
word_of-requires-else-log2-level-clause-number c =
    let from = c.requires.a_size.from in let to = c.requires.a_size.to in let low = c.requires.a_size.low_level in
    let other = c.if-log2-level.false in
    let shifted = one_shl (c.args.log2 - 1) 64 (omega arith) in
    let half = halves c.args.log2 (omega arith) in
    let some = pow_pos (c.args.log2 - 1) in
    let room = c.requires.within in
    rw shifted (omega arith)

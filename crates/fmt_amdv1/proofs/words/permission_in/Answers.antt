use Rattle.std.proofs.Common.{◌≡◌, ◌^◌, true, false}
use Rattle.std.specs.Prelude.{bit_and, ◌==◌}
use Rattle.fmt_amdv1.proofs.AmdCode.{both_by_write, read_by_write}
use Rattle.fmt_amdv1.proofs.words.permission_in.Goals as goal

pub returns-then-contains-clause-of_leaf : goal.returns-then-contains-clause-of_leaf
returns-then-contains-clause-of_leaf c =
    let test : (bit_and c.args.word (2 ^ 62) == 2 ^ 62) ≡ true = cc (c.contains.ensures tt, c.from_bits_retain.ensures tt, c.if-contains.true) in
    λ level log2 out prot x. both_by_write test x

pub returns-else-contains-clause-of_leaf : goal.returns-else-contains-clause-of_leaf
returns-else-contains-clause-of_leaf c =
    let test : (bit_and c.args.word (2 ^ 62) == 2 ^ 62) ≡ false = cc (c.contains.ensures tt, c.from_bits_retain.ensures tt, c.if-contains.false) in
    λ level log2 out prot x. read_by_write test x

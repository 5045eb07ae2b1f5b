use Rattle.std.proofs.Common.{◌≡◌, true, false}
use Rattle.std.specs.Prelude.{bit_and, ◌==◌}
use Rattle.fmt_vmsa.proofs.VmsaCode.{both_by_bit, read_by_bit}
use Rattle.fmt_vmsa.proofs.words.permission_in.Goals as goal

pub returns-then-contains-clause-of_leaf : goal.returns-then-contains-clause-of_leaf
returns-then-contains-clause-of_leaf c = λ granule level own prot contiguous is x.
    let test : (bit_and c.args.word 128 == 128) ≡ true = cc (c.contains.ensures tt, c.from_bits_retain.ensures tt, c.if-contains.true) in
    read_by_bit is x test

pub returns-else-contains-clause-of_leaf : goal.returns-else-contains-clause-of_leaf
returns-else-contains-clause-of_leaf c = λ granule level own prot contiguous is x.
    let test : (bit_and c.args.word 128 == 128) ≡ false = cc (c.contains.ensures tt, c.from_bits_retain.ensures tt, c.if-contains.false) in
    both_by_bit is x test

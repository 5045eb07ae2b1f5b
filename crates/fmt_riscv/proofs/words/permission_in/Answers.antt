use Rattle.std.proofs.Common.{◌≡◌, ◌%◌, ◌^◌, true, false, refl, arith}
use Rattle.std.specs.Prelude.{bit_and, ◌==◌}
use Rattle.pt_model.specs.declared.block.Prot.TheVariants.{Read, ReadWrite}
use Rattle.pt_format.proofs.Permissions.{both_by_bit, read_by_bit}
use Rattle.fmt_riscv.specs.RiscvWords.{of_leaf}
use Rattle.fmt_riscv.proofs.RiscvCode.{permission_is}
use Rattle.fmt_riscv.proofs.words.permission_in.Goals as goal

pub returns-then-contains-clause-of_leaf : goal.returns-then-contains-clause-of_leaf
returns-then-contains-clause-of_leaf c =
    let test : (bit_and c.args.word 4 == 4) ≡ true = cc (c.contains.ensures tt, c.from_bits_retain.ensures tt, c.if-contains.true) in
    permission_is ReadWrite (both_by_bit (λ p. of_leaf p % 2 ^ 7) 4 (omega arith) refl refl c.args.word test)

pub returns-else-contains-clause-of_leaf : goal.returns-else-contains-clause-of_leaf
returns-else-contains-clause-of_leaf c =
    let test : (bit_and c.args.word 4 == 4) ≡ false = cc (c.contains.ensures tt, c.from_bits_retain.ensures tt, c.if-contains.false) in
    permission_is Read (read_by_bit (λ p. of_leaf p % 2 ^ 7) 4 (omega arith) refl refl c.args.word test)

use Rattle.std.proofs.Common.{◌≡◌, ◌/◌, ◌^◌}
use Rattle.std.specs.Prelude.{bit_or}
use Rattle.fmt_riscv.proofs.RiscvCode.{pointer_built}
use Rattle.fmt_riscv.proofs.words.table_word.Goals as goal

pub returns : goal.returns
returns c =
    let word : c.bits.result ≡ bit_or (c.args.address / 2 ^ 2) 1 = cc (c.bits.ensures tt, c.insert.ensures tt, c.from_bits_retain-entry.ensures tt) in
    pointer_built c.args.address c.bits.result c.requires word

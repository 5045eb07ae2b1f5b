use Rattle.std.proofs.Common.{◌≡◌, ◌∙◌}
use Rattle.std.specs.Prelude.{bit_or}
use Rattle.fmt_vmsa.proofs.VmsaCode.{pointer_built}
use Rattle.fmt_vmsa.proofs.words.table_word.Goals as goal

pub returns : goal.returns
returns c =
    let word : c.bits.result ≡ bit_or (bit_or c.args.address 1) 2 =
    cc (c.bits.ensures tt, c.insert-2.ensures tt, c.insert.ensures tt, c.from_bits_retain-entry.ensures tt) in
    word ∙ pointer_built c.args.address c.requires

use Rattle.std.proofs.Common.{◌≡◌}
use Rattle.std.specs.Prelude.{bit_or}
use Rattle.pt_format.proofs.FourKibWords.{pointer_built}
use Rattle.pt_format.proofs.entry_bits.table_word.Goals as goal

pub returns : goal.returns
returns g c =
    let exact = g.met.E.EntryBits.is_exact in
    let word : c.bits.result ≡ bit_or c.args.address g.E.EntryBits.entries.of_pointer =
    cc (c.bits.ensures exact, c.insert.ensures exact, c.from_bits_retain-entry.ensures exact, c.of_pointer.ensures) in
    pointer_built g.met.E.EntryBits.are_bits c.args.address c.bits.result c.requires.whole word

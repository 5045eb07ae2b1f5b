use Rattle.std.proofs.Common.{◌≡◌}
use Rattle.std.specs.Prelude.{bit_or}
use Rattle.pt_format.specs.FourKib.{size_bit}
use Rattle.pt_format.proofs.FourKibWords.{leaf_built}
use Rattle.pt_format.proofs.entry_bits.leaf_word.Goals as goal

pub returns : goal.returns
returns g c =
    let exact = g.met.E.EntryBits.is_exact in
    let first : g.E.Flags.set_of c.insert.new.self ≡ bit_or (g.E.Flags.set_of c.from_bits_retain-entry.result) (g.E.EntryBits.entries.of_leaf c.args.prot) =
    rw c.of_leaf.ensures at c.insert.ensures exact in
    let second : c.bits.result ≡ bit_or (g.E.Flags.set_of c.insert.new.self) (size_bit c.args.level) =
    cc (c.bits.ensures exact, c.insert-2.ensures exact, c.size_bits.ensures) in
    leaf_built g.met.E.EntryBits.are_bits c.args.level c.args.out c.args.prot _ _ c.bits.result c.requires.stated c.requires.in_output
    (c.from_bits_retain-entry.ensures exact) first second

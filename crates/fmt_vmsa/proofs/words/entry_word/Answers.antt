use Rattle.std.proofs.Common.{◌≡◌, ◌*◌, ◌^◌, arith}
use Rattle.fmt_vmsa.proofs.VmsaCode.{bytes_below, entry_built}
use Rattle.fmt_vmsa.proofs.words.entry_word.Goals as goal
use Rattle.fmt_vmsa.proofs.words.entry_word.Goals.{then-contiguous, else-contiguous}

pub returns : goal.returns
returns c =
    let low = bytes_below c.requires.a_granule c.args.own c.requires.within in
    let built = entry_built c.requires.a_granule c.args.level c.args.own c.args.prot c.requires.within c.requires.stated in
    let begun : c.from_bits_retain-entry.result.0 ≡ c.args.own * 2 ^ c.args.granule =
    omega (arith, c.from_bits_retain-entry.ensures tt) in
    elim c.if-contiguous.branch [
      | then-contiguous w ↦
          rw w.if-contiguous.true
          (cc (built.1, begun, w.insert-then-contiguous.ensures tt, c.insert.ensures tt, c.leaf_bits.ensures, c.bits.ensures tt, w.entry-is))
      | else-contiguous w ↦
          rw w.if-contiguous.false (cc (built.0, begun, c.insert.ensures tt, c.leaf_bits.ensures, c.bits.ensures tt, w.entry-is))
    ]

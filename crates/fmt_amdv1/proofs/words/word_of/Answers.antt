use Rattle.std.proofs.Common.{◌≡◌, ◌+◌, ◌*◌, ◌^◌, ◌∙◌, ap₂, arith}
use Rattle.std.specs.Prelude.{bit_or}
use Rattle.fmt_amdv1.proofs.AmdCode.{word_built}
use Rattle.fmt_amdv1.proofs.words.word_of.Goals as goal

pub returns : goal.returns
returns c =
    let low = c.requires.number in
    let few = c.requires.next in
    let fields : c.from_bits_retain-entry.result.0 ≡ c.args.number * 2 ^ 12 + c.args.next * 2 ^ 9 =
    c.from_bits_retain-entry.ensures tt ∙ omega arith in
    word_built c.args.number c.args.next c.args.prot c.bits.result c.requires.number c.requires.next c.requires.stated
    (c.bits.ensures tt ∙ c.insert.ensures tt ∙ ap₂ bit_or fields c.bits_of.ensures)

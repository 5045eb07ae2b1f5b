use Rattle.std.proofs.Common.{◌≤◌, length, drop, ap, arith, length-append, length-drop}
use Rattle.std.specs.Fmt.{decimal}
use Rattle.std.proofs.lemmas.Fmt.{length-decimal-le}
use Rattle.pt_stream.proofs.line.Line.put_dec.Goals as goal

pub write_digits-self-inside-requires : goal.write_digits-self-inside-requires
write_digits-self-inside-requires c =
    let few : length (decimal c.args.value) ≤ 20 = length-decimal-le 20 c.args.value (omega arith) (omega arith) (omega arith) in
    (omega (arith, few, ap length c.self.view_is, length-drop c.self.inside.start c.self.inside.bytes), omega arith)

pub returns-clause-short : goal.returns-clause-short
returns-clause-short c =
    let old = drop c.self.inside.start c.self.inside.bytes in
    let few : length (decimal c.args.value) ≤ 20 = length-decimal-le 20 c.args.value (omega arith) (omega arith) (omega arith) in
    omega (arith, ap length c.write_digits-self-inside.ensures.written, length-append (decimal c.args.value) old, few, ap length c.self.view_is)

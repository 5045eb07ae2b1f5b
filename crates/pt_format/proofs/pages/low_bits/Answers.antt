use Rattle.std.proofs.Common.{◌≢◌, ◌<◌, arith, refl}
use Rattle.std.proofs.lemmas.Nat.{one_shl, and_mask}
use Rattle.pt_format.proofs.pages.low_bits.Goals as goal

pub returns-else-bits-eq64 : goal.returns-else-bits-eq64
returns-else-bits-eq64 c =
    let few = c.requires in
    let other : c.args.bits ≢ 64 = c.if-bits-eq64.false in
    let small : c.args.bits < 64 = omega arith in
    rw (one_shl c.args.bits 64 small, and_mask) refl

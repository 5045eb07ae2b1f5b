use Rattle.std.proofs.Common.{◌≡◌, ℕ, ◌+◌, ◌-◌, ◌*◌, ◌^◌, ◌<◌, ◌≤◌, arith, true}
use Rattle.std.specs.Prelude.{nat_le, if◌then◌else◌}
use Rattle.std.proofs.lemmas.Nat.{one_shl, pow_pos, pow-add}
use Rattle.std.proofs.lemmas.Bool.{le-leb}
use Rattle.std.proofs.Math.Pow.{pow_mono}
use Rattle.pt_format.proofs.pages.sign_extended.Goals as goal

-- the upper half of n bits, as the upper half of 64 bits
upper : (byte n : ℕ) → 1 ≤ n → n ≤ 64 → byte < 2 ^ n → 2 ^ (n - 1) ≤ byte →
    byte - 2 ^ (n - 1) + (2 ^ 64 - 1 - 2 ^ (n - 1) + 1) ≡ byte + (if nat_le (2 ^ (n - 1)) byte then 2 ^ 64 - 2 ^ n else 0)
upper byte n some few within high =
    let test : nat_le (2 ^ (n - 1)) byte ≡ true = le-leb _ _ high in
    let last : n - 1 + 1 ≡ n = omega arith in
    let twice : 2 ^ n ≡ 2 ^ (n - 1) * 2 = rw last at (pow-add 2 (n - 1) 1) in
    let most : 2 ^ n ≤ 2 ^ 64 = pow_mono few in
    rw test (omega (arith, pow_pos (n - 1)))

pub returns-then-byte-half : goal.returns-then-byte-half
returns-then-byte-half c =
    let small : c.args.bits - 1 < 64 = omega arith in
    let high : 2 ^ (c.args.bits - 1) ≤ c.args.byte = rw (one_shl (c.args.bits - 1) 64 small) at c.if-byte-half.true in
    rw (one_shl (c.args.bits - 1) 64 small)
    (upper c.args.byte c.args.bits c.requires.some c.requires.few c.requires.within high)

use Rattle.std.proofs.Common.{◌≡◌, ◌+◌, ◌-◌, ◌/◌, ◌^◌, arith, ap, ◌∙◌}
use Rattle.std.proofs.lemmas.Nat.Bits.{ones_shr}
use Rattle.pt_num.proofs.Bits.{low_bits}
use Rattle.pt_num.proofs.bits_up_to.Goals as goal

pub returns : goal.returns
returns c =
    let ones : 18446744073709551615 / 2 ^ (63 - c.args.most) ≡ 2 ^ (c.args.most + 1) - 1 =
    ones_shr 64 (63 - c.args.most) (omega arith) ∙ ap (λ n. 2 ^ n - 1) (omega arith) in
    λ k. rw ones (low_bits c.args.mask c.args.most k)

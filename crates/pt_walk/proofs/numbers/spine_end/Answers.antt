use Rattle.std.proofs.Common.{◌+◌, ◌*◌, ◌^◌, ap, ◌∙◌, arith}
use Rattle.std.proofs.lemmas.Nat.{one_shl}
use Rattle.pt_walk.proofs.Cuts.{power_cut}
use Rattle.pt_walk.proofs.numbers.spine_end.Goals as goal

pub returns : goal.returns
returns g c =
    one_shl c.entry_bits.result 64 (let e = c.entry_bits.ensures in omega arith) ∙ ap (λ b. 2 ^ b) c.entry_bits.ensures ∙ power_cut (g.F.Format.layout.index * (c.args.level + 1))

use Rattle.std.proofs.Common.{◌≡◌, ◌-◌, ◌≤◌, ◌^◌, ◌∙◌, sym, arith}
use Rattle.std.proofs.lemmas.Nat.{one_shl}
use Rattle.std.proofs.Math.Pow.{pow_mono}
use Rattle.pt_made.proofs.making.margin.Goals as goal

pub returns-clause-few : goal.returns-clause-few
returns-clause-few g c =
    let good = g.met.F.Format.lawful_layout in
    let bits : c.INDEX.result ≡ g.F.Format.layout.index = c.INDEX.ensures ∙ sym g.met.F.Format.has_constants.index_is in
    let few : c.INDEX.result - 1 ≤ 12 = omega (arith, good.index_is, good.granule_high) in
    let small : 2 ^ (c.INDEX.result - 1) ≤ 2 ^ 12 = pow_mono few in
    omega (arith, small, one_shl (c.INDEX.result - 1) 64 (omega arith))

use Rattle.std.proofs.Common.{◌^◌, arith}
use Rattle.std.proofs.lemmas.Nat.{mul-le}
use Rattle.pt_made.proofs.making.first_of.Goals as goal

pub returns-clause-few : goal.returns-clause-few
returns-clause-few g c = omega (arith, mul-le c.args.branch c.region.result 4 (2 ^ 15) c.requires c.region.ensures.few, c.margin.ensures.few)

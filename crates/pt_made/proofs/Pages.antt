-- The pages of made commands: how many they are at most, and that each lies in its branch.
use Rattle.std.proofs.Common.{ℕ, ◌+◌, ◌-◌, ◌^◌, ◌<◌, ◌≤◌, Bool, true, false, arith}
use Rattle.std.specs.Prelude.{◌==◌, if◌then◌else◌}
use Rattle.std.proofs.lemmas.Nat.{mul-le}
use Rattle.std.proofs.Math.Pow.{pow_mono}
use Rattle.pt_model.specs.Layout.{Layout}
use Rattle.pt_format.specs.Laws.{IsLayout}
use Rattle.pt_made.specs.Made.{region, margin, first_of, per_branch}

pub region_small : {f : Layout} → IsLayout f → region f ≤ 2 ^ 15
region_small {f} l =
    let a = l.index_is in let b = l.granule_high in
    let few : f.index + 2 ≤ 15 = omega arith in pow_mono few

pub margin_small : {f : Layout} → IsLayout f → margin f ≤ 2 ^ 12
margin_small {f} l =
    let a = l.index_is in let b = l.granule_high in
    let few : f.index - 1 ≤ 12 = omega arith in pow_mono few

pub first_small : {f : Layout} → IsLayout f → (branch : ℕ) → branch ≤ 4 → first_of f branch < 2 ^ 18
first_small {f} l branch low =
    omega (arith, mul-le branch (region f) 4 (2 ^ 15) low (region_small l), margin_small l)

commands_by : (x y : Bool) → (if x then 1000 else (if y then 250 else 60)) ≤ 1000
commands_by true y = omega arith
commands_by false true = omega arith
commands_by false false = omega arith

pub few_commands : (f : Layout) → per_branch f ≤ 1000
few_commands f = commands_by (f.granule == 12) (f.granule == 14)

use Rattle.std.proofs.Common.{arith, ◌<◌, ◌/◌, ◌^◌}
use Rattle.std.proofs.lemmas.Nat.{div_below, pow_pos}
use Rattle.pt_model.proofs.Tops.{power_mono}
use Rattle.pt_tile.proofs.tables.ended.Goals as goal

pub returns-else-log2-lt64 : goal.returns-else-log2-lt64
returns-else-log2-lt64 c =
    let none : c.args.page / 2 ^ c.args.log2 < 1 =
    div_below c.args.page (2 ^ c.args.log2) 1 (pow_pos c.args.log2) (omega (arith, power_mono 64 c.args.log2 (omega arith))) in
    omega arith

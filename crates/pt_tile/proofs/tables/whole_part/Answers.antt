use Rattle.std.proofs.Common.{◌≡◌, ◌*◌, ◌/◌, ◌%◌, ◌^◌, ◌<◌, ◌≤◌, arith, ap, sym, ◌∙◌, ℕ}
use Rattle.std.proofs.Math.Nat.{mod-eq_of_lt}
use Rattle.std.proofs.lemmas.Nat.{shr_split}
use Rattle.pt_tile.specs.Counting.{begun}
use Rattle.pt_tile.proofs.Begun.{begun_few}
use Rattle.pt_model.proofs.Tops.{power_mono}
use Rattle.pt_tile.proofs.Uncovered.{whole_some, whole_none}
use Rattle.pt_tile.proofs.tables.whole_part.Goals as goal

-- the part is there, and its ends do not wrap
parts_fit : (log2 first end a b : ℕ) → log2 < 64 → first ≤ 2 ^ 52 → end < 2 ^ 64 → a ≡ begun log2 first → b ≡ end / 2 ^ log2 →
    (a * 2 ^ log2 % 2 ^ 64 ≡ begun log2 first * 2 ^ log2) × (b * 2 ^ log2 % 2 ^ 64 ≡ end / 2 ^ log2 * 2 ^ log2)
parts_fit log2 first end a b small few fits e h =
    let power : 2 ^ log2 ≤ 2 ^ 63 = power_mono log2 63 (omega arith) in
    let low : begun log2 first * 2 ^ log2 < 2 ^ 64 = omega (arith, power, begun_few log2 first) in
    let high : end / 2 ^ log2 * 2 ^ log2 < 2 ^ 64 = omega (arith, shr_split end log2) in (
      ap (λ (n : ℕ). n * 2 ^ log2 % 2 ^ 64) e ∙ mod-eq_of_lt low,
      ap (λ (n : ℕ). n * 2 ^ log2 % 2 ^ 64) h ∙ mod-eq_of_lt high,
    )

pub returns-then-part : goal.returns-then-part
returns-then-part c =
    let fit = parts_fit c.args.log2 c.args.first c.args.end c.begun.result c.ended.result c.requires.a_size c.requires.few (omega arith) c.begun.ensures c.ended.ensures in
    rw (fit.0, fit.1) (sym (whole_some c.args.log2 c.args.first c.args.end (rw (fit.0, fit.1) at c.if-part.true)))

pub returns-else-part : goal.returns-else-part
returns-else-part c =
    let fit = parts_fit c.args.log2 c.args.first c.args.end c.begun.result c.ended.result c.requires.a_size c.requires.few (omega arith) c.begun.ensures c.ended.ensures in
    sym (whole_none c.args.log2 c.args.first c.args.end (rw (fit.0, fit.1) at c.if-part.false))

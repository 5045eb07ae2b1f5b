use Rattle.std.proofs.Common.{◌≡◌, ℕ, ◌+◌, ◌-◌, ◌*◌, ◌%◌, ◌^◌, ◌<◌, ◌≤◌, arith}
use Rattle.std.proofs.Math.Nat.{mod-eq_of_lt, mul-le-mul_right}
use Rattle.std.proofs.lemmas.Nat.{pow_pos}
use Rattle.pt_tile.proofs.TileFacts.{step_is}
use Rattle.table_cases.proofs.tests.runs_of.Goals as goal

pub run_length-count-requires-clause-first : goal.run_length-count-requires-clause-first
run_length-count-requires-clause-first g c =
    step_is g.F.Format.layout (c.args.span.first + c.loop-gone.gone) (c.args.out + c.loop-gone.gone) (c.args.span.count - c.loop-gone.gone)
    c.all_sizes-sizes.result c.greatest_step-log2.result c.all_sizes-sizes.ensures g.met.F.Format.lawful_layout.has_pages (omega arith)
    (omega (arith, c.requires.in_input)) (omega (arith, c.requires.in_output)) c.greatest_step-log2.ensures.greatest

-- a run takes from what is left
run_takes : (count log2 gone all : ℕ) → gone < all → all < 2 ^ 64 → 1 ≤ count → count * 2 ^ log2 ≤ all - gone →
    all - (gone + count * 2 ^ log2 % 2 ^ 64) < all - gone
run_takes count log2 gone all more fits some within =
    let whole : count * 2 ^ log2 % 2 ^ 64 ≡ count * 2 ^ log2 = mod-eq_of_lt (omega arith) in
    omega (arith, whole, pow_pos log2, mul-le-mul_right (2 ^ log2) some)

pub loop-gone-smaller : goal.loop-gone-smaller
loop-gone-smaller g c =
    run_takes c.run_length-count.result c.greatest_step-log2.result c.loop-gone.gone c.args.span.count
    c.loop-gone-test.true (omega arith) c.run_length-count.ensures.some c.run_length-count.ensures.within

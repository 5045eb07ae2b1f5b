use Rattle.std.proofs.Common.{◌^◌, ◌≤◌, inl, inr, arith}
use Rattle.std.proofs.lemmas.Bool.{cases_lt}
use Rattle.std.proofs.Math.Pow.{pow_mono}
use Rattle.pt_sweep.proofs.entry.reaches_out.Goals as goal

pub overflow_shl-result : goal.overflow_shl-result
overflow_shl-result c = elim (cases_lt c.args.block.log2 64) [
  | inl less ↦ less
  | inr over ↦ absurd (let wide : 2 ^ 64 ≤ 2 ^ c.args.block.log2 = pow_mono over in let few = c.requires in omega arith)
]

-- Sizes of leaves.
use Rattle.std.proofs.Common.{ℕ, ◌-◌, ◌^◌, ◌<◌, ◌≤◌, arith, pow_mono}
use mathlib.Core.Logic.{dite}
use native.Mathlib.Decide.{dec_le}
use Rattle.pt_model.specs.declared.block.Prot.{Prot}
use Rattle.pt_model.specs.Layout.{Layout, output_pages}
use Rattle.pt_format.specs.Laws.{IsLayout}
use Rattle.pt_format.specs.Words.{IsLeaf}

pub size_few : {f : Layout} → IsLayout f → {level word log2 : ℕ} {prot : Prot} → IsLeaf f level word log2 prot → log2 < 64
size_few {f} good {log2 = log2} leaf = dite (dec_le 64 log2)
    (λ over. absurd (
    let wide : 2 ^ 64 ≤ 2 ^ log2 = pow_mono over in
    let bits : f.output - f.granule ≤ 56 = (let h = good.output_high in let g = good.granule_low in omega arith) in
    let few : output_pages f ≤ 2 ^ 56 = pow_mono bits in
    let within = leaf.may.within in omega arith))
    (λ less. omega arith)

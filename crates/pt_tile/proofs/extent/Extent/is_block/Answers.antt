use Rattle.std.proofs.Common.{◌≡◌, ◌-◌, ◌/◌, ◌^◌, arith}
use Rattle.std.specs.Prelude.{bit_and}
use Rattle.std.proofs.lemmas.Bool.{eqb-true}
use Rattle.std.proofs.lemmas.Nat.{bit_set_by_shift, one_shl}
use Rattle.pt_tile.proofs.FirstSizes.{block_size}
use Rattle.pt_tile.proofs.extent.Extent.is_block.Goals as goal

pub returns : goal.returns
returns g c = λ t.
    let f = g.F.Format.layout in
    let x = c.args.self in
    let part = c.requires.extent in
    let some = part.some in
    let whole : x.end - x.first ≡ 2 ^ c.args.log2 = (let s = one_shl c.args.log2 64 c.requires.small in let e = c.if-self-log2.false in omega arith) in
    let size = (c.all_sizes.ensures c.args.log2).0 ((bit_set_by_shift c.all_sizes.result c.args.log2).0 (eqb-true (bit_and (c.all_sizes.result / 2 ^ c.args.log2) 1) 1 t)) in
    (block_size g.met.F.Format.lawful_layout part c.args.log2 size (c.is_aligned.ensures.0 c.if-not-is_aligned.false) (c.is_aligned-2.ensures.0 c.if-not-is_aligned-2.false) whole, omega arith)

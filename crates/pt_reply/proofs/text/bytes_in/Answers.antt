use Rattle.std.proofs.Common.{◌≡◌, ◌+◌, ◌^◌, ◌<◌, ap, sym, ◌∙◌, arith}
use Rattle.std.proofs.lemmas.Nat.{one_shl}
use Rattle.pt_reply.proofs.BlockBytes.{size_below}
use Rattle.pt_reply.proofs.text.bytes_in.Goals as goal

pub overflow_shl-result : goal.overflow_shl-result
overflow_shl-result g c =
    let f = g.F.Format.layout in
    let granule : c.GRANULE.result ≡ f.granule = c.GRANULE.ensures ∙ sym g.met.F.Format.has_constants.granule_is in
    omega (arith, granule, size_below f c.args.block c.requires, g.met.F.Format.lawful_layout.input_high)

pub overflow_add-result : goal.overflow_add-result
overflow_add-result g c =
    let f = g.F.Format.layout in
    let granule : c.GRANULE.result ≡ f.granule = c.GRANULE.ensures ∙ sym g.met.F.Format.has_constants.granule_is in
    omega (arith, granule, size_below f c.args.block c.requires, g.met.F.Format.lawful_layout.input_high)

pub returns : goal.returns
returns g c =
    let f = g.F.Format.layout in
    let granule : c.GRANULE.result ≡ f.granule = c.GRANULE.ensures ∙ sym g.met.F.Format.has_constants.granule_is in
    let few : c.GRANULE.result + c.args.block.log2 < 64 = omega (arith, granule, size_below f c.args.block c.requires, g.met.F.Format.lawful_layout.input_high) in
    one_shl (c.GRANULE.result + c.args.block.log2) 64 few ∙ ap (λ k. 2 ^ (k + c.args.block.log2)) granule

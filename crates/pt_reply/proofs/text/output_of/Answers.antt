use Rattle.std.proofs.Common.{◌≡◌, ℕ, ◌*◌, ◌%◌, ◌^◌, ap, sym, ◌∙◌}
use Rattle.pt_reply.proofs.BlockBytes.{output_fits}
use Rattle.pt_reply.proofs.text.output_of.Goals as goal

pub returns : goal.returns
returns g c =
    let f = g.F.Format.layout in
    let granule : c.GRANULE.result ≡ f.granule = c.GRANULE.ensures ∙ sym g.met.F.Format.has_constants.granule_is in
    ap (λ (k : ℕ). c.args.block.out * 2 ^ k % 2 ^ 64) granule ∙ output_fits f g.met.F.Format.lawful_layout c.args.block c.requires.nameable

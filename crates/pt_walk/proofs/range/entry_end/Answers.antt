use Rattle.std.proofs.Common.{◌≡◌, ◌+◌, ◌*◌, ◌/◌, ◌^◌, ◌<◌, min, ap, ◌∙◌, arith}
use Rattle.pt_model.specs.Layout.{pages_of_entry}
use Rattle.pt_walk.proofs.Cuts.{end_cut, pages_few}
use Rattle.pt_walk.proofs.range.entry_end.Goals as goal

pub returns : goal.returns
returns g c =
    let f = g.F.Format.layout in
    let few : c.args.page < 2 ^ 52 = omega (arith, pages_few f g.met.F.Format.lawful_layout, c.requires.a_page) in
    let end : (c.args.page / 2 ^ c.entry_bits-bits.result + 1) * 2 ^ c.entry_bits-bits.result ≡ min ((c.args.page / pages_of_entry f c.args.level + 1) * pages_of_entry f c.args.level) (2 ^ 63) =
    ap (λ b. (c.args.page / 2 ^ b + 1) * 2 ^ b) c.entry_bits-bits.ensures ∙ end_cut c.args.page (f.index * c.args.level) few in
    omega (arith, end)

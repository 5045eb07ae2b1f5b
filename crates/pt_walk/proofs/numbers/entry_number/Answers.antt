use Rattle.std.proofs.Common.{◌≡◌, ◌*◌, ◌/◌, ◌%◌, ◌^◌, ◌<◌, arith, ap, sym, ◌∙◌}
use Rattle.pt_walk.proofs.Cuts.{pages_few, quotient_cut, masked}
use Rattle.pt_walk.proofs.numbers.entry_number.Goals as goal

pub returns-clause-number : goal.returns-clause-number
returns-clause-number g c =
    let f = g.F.Format.layout in
    let l = g.met.F.Format.lawful_layout in
    let k = g.met.F.Format.has_constants in
    let few : c.args.page < 2 ^ 52 = omega (arith, pages_few f l, c.requires.a_page) in
    let index : c.INDEX.result ≡ f.index = c.INDEX.ensures ∙ sym k.index_is in
    masked (c.args.page / 2 ^ c.entry_bits.result) c.INDEX.result f.index index (omega (arith, index, l.index_is, l.granule_high))
    ∙ ap (λ b. c.args.page / 2 ^ b % 2 ^ f.index) c.entry_bits.ensures
    ∙ ap (λ q. q % 2 ^ f.index) (quotient_cut c.args.page (f.index * c.args.level) few)

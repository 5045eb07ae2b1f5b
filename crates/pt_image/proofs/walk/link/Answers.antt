use Rattle.std.proofs.Common.{◌-◌, ◌≤◌, ◌^◌, arith, pow_mono}
use Rattle.pt_model.specs.Layout.{input_pages}
use Rattle.pt_image.proofs.walk.link.Goals as goal

pub placed_word-requires-clause-few : goal.placed_word-requires-clause-few
placed_word-requires-clause-few g c =
    let f = g.F.Format.layout in
    let bits : f.input - f.granule ≤ 52 = (let a = g.met.F.Format.lawful_layout.pages_high in omega arith) in
    let few : input_pages f ≤ 2 ^ 52 = pow_mono bits in let page = c.requires.entry.inside in omega arith

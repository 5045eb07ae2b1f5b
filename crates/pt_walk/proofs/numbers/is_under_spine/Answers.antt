use Rattle.std.proofs.Common.{◌≡◌, ◌+◌, ◌*◌, ◌/◌, ◌^◌, ◌<◌, arith, ap, sym, ◌∙◌}
use Rattle.std.proofs.lemmas.Bool.{eqb-true, eq-eqb}
use Rattle.std.proofs.Math.Nat.{div-eq_of_lt}
use Rattle.pt_walk.proofs.Cuts.{pages_few, quotient_cut, zero_below}
use Rattle.pt_walk.proofs.numbers.is_under_spine.Goals as goal

pub returns : goal.returns
returns g c =
    let f = g.F.Format.layout in
    let few : c.args.page < 2 ^ 52 = omega (arith, pages_few f g.met.F.Format.lawful_layout, c.requires.a_page) in
    let cut : c.args.page / 2 ^ c.entry_bits.result ≡ c.args.page / 2 ^ (f.index * (c.args.level + 1)) =
    ap (λ b. c.args.page / 2 ^ b) c.entry_bits.ensures ∙ quotient_cut c.args.page (f.index * (c.args.level + 1)) few in (
      (λ h. zero_below c.args.page (f.index * (c.args.level + 1)) (sym cut ∙ eqb-true (c.args.page / 2 ^ c.entry_bits.result) 0 h)),
      (λ less. eq-eqb (c.args.page / 2 ^ c.entry_bits.result) 0 (cut ∙ div-eq_of_lt less)),
    )

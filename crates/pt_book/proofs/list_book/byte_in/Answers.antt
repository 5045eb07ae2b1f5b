use Rattle.std.proofs.Common.{◌≡◌, ◌+◌, ◌-◌, ◌*◌, ◌%◌, ◌^◌, ap, ap₂, sym, ◌∙◌, arith}
use Rattle.std.proofs.lemmas.Nat.{one_shl, shl_whole, pow_pos}
use Rattle.pt_book.proofs.Refusing.{byte_fits}
use Rattle.pt_book.proofs.list_book.byte_in.Given.{Over}
use Rattle.pt_book.proofs.list_book.byte_in.Goals as goal
use Rattle.pt_book.proofs.list_book.byte_in.Goals.{After-GRANULE-2}

before : (g : Over) (c : After-GRANULE-2 g) → c.args.out * 2 ^ c.GRANULE.result % 2 ^ 64 ≡ c.args.out * 2 ^ g.F.Format.layout.granule
before g c =
    let f = g.F.Format.layout in
    let l = g.met.F.Format.lawful_layout in
    let bits : c.GRANULE.result ≡ f.granule = c.GRANULE.ensures ∙ sym g.met.F.Format.has_constants.granule_is in
    ap (λ k. c.args.out * 2 ^ k % 2 ^ 64) bits
    ∙ shl_whole c.args.out (f.output - f.granule) f.granule 64 c.requires (omega (arith, l.output_high, l.output_low, l.granule_high))

offset : (g : Over) (c : After-GRANULE-2 g) → c.args.address % (1 * 2 ^ c.GRANULE-2.result % 2 ^ 64) ≡ c.args.address % 2 ^ g.F.Format.layout.granule
offset g c =
    let f = g.F.Format.layout in
    let l = g.met.F.Format.lawful_layout in
    let bits : c.GRANULE-2.result ≡ f.granule = c.GRANULE-2.ensures ∙ sym g.met.F.Format.has_constants.granule_is in
    ap (λ n. c.args.address % n) (one_shl c.GRANULE-2.result 64 (omega (arith, bits, l.granule_high)) ∙ ap (λ k. 2 ^ k) bits)

pub overflow_add-result : goal.overflow_add-result
overflow_add-result g c =
    let f = g.F.Format.layout in
    omega (arith, before g c, offset g c, byte_fits f g.met.F.Format.lawful_layout c.args.out c.requires, pow_pos f.granule)

pub returns : goal.returns
returns g c = ap₂ (λ a b. a + b) (before g c) (offset g c)

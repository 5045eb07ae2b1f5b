use Rattle.std.proofs.Common.{◌≡◌, ℕ, ◌+◌, ◌-◌, ◌*◌, ◌%◌, ◌^◌, ap, ap₂, sym, ◌∙◌, arith}
use Rattle.std.specs.Prelude.{bit_and}
use Rattle.std.proofs.lemmas.Nat.{mod_below, pow_pos}
use Rattle.pt_model.specs.declared.block.Prot.{Prot}
use Rattle.pt_format.proofs.LeafPages.{leaf_page}
use Rattle.pt_walk.proofs.Cuts.{masked}
use Rattle.pt_walk.proofs.Bytes.{out_bytes, byte_made}
use Rattle.pt_walk.proofs.translate.value_under.Given.{Over}
use Rattle.pt_walk.proofs.translate.value_under.Goals as goal
use Rattle.pt_walk.proofs.translate.value_under.Goals.{After-GRANULE-2}

offset : (g : Over) (c : After-GRANULE-2 g) →
    bit_and c.args.address (1 * 2 ^ c.GRANULE.result % 2 ^ 64 - 1) ≡ c.args.address % 2 ^ g.F.Format.layout.granule
offset g c =
    let l = g.met.F.Format.lawful_layout in
    let bits : c.GRANULE.result ≡ g.F.Format.layout.granule = c.GRANULE.ensures ∙ sym g.met.F.Format.has_constants.granule_is in
    masked c.args.address c.GRANULE.result g.F.Format.layout.granule bits (omega (arith, bits, l.granule_high))

pub overflow_add-result : goal.overflow_add-result
overflow_add-result g c =
    let f = g.F.Format.layout in
    let bits : c.GRANULE-2.result ≡ f.granule = c.GRANULE-2.ensures ∙ sym g.met.F.Format.has_constants.granule_is in
    let out = out_bytes f g.met.F.Format.lawful_layout c.out_of-out.result c.GRANULE-2.result bits c.out_of-out.ensures.within in
    omega (arith, out.0, out.1, offset g c, mod_below c.args.address (2 ^ f.granule) (pow_pos f.granule))

pub returns : goal.returns
returns g c = λ first log2 out part prot may word under.
    let f = g.F.Format.layout in
    let page : c.out_of-out.result ≡ out + (c.args.page - first) = leaf_page g.met.F.Format.steps_agree c.out_of-out.ensures.page first log2 out part prot may word under in
    let bits : c.GRANULE-2.result ≡ f.granule = c.GRANULE-2.ensures ∙ sym g.met.F.Format.has_constants.granule_is in
    let byte = byte_made f g.met.F.Format.lawful_layout c.out_of-out.result c.GRANULE-2.result
    (bit_and c.args.address (1 * 2 ^ c.GRANULE.result % 2 ^ 64 - 1)) c.args.address bits (offset g (goal.at.returns g c).After-GRANULE-2) c.out_of-out.ensures.within
    ∙ ap (λ n. n * 2 ^ f.granule + c.args.address % 2 ^ f.granule) page in
    let permits : c.prot_of.result ≡ prot = c.prot_of.ensures log2 prot (record { out = out; part = part; may = may; word_is = word }) in
    ap₂ (λ (b : ℕ) (p : Prot). (b, p)) byte permits

use Rattle.std.proofs.Common.{◌≡◌, ℕ, ◌-◌, ◌*◌, ◌/◌, ◌%◌, ◌^◌, ◌∙◌, false, ap, sym, arith}
use Rattle.std.specs.Prelude.{Option, Some, option_map}
use Rattle.std.proofs.lemmas.Nat.{one_shl}
use Rattle.pt_format.specs.Ranges.{span_of}
use Rattle.pt_format.proofs.PageFacts.{count_small}
use Rattle.pt_format.proofs.UnsignedRanges.{range_is, range_none}
use Rattle.pt_format.proofs.pages.range_of.Given.{Over}
use Rattle.pt_format.proofs.pages.range_of.Goals as goal
use Rattle.pt_format.proofs.pages.range_of.Goals.{After-GRANULE-2, After-GRANULE-3}

-- the constants are those of the layout
module _ (g : Over) (c : After-GRANULE-2 g) where
  pub unsigned : g.F.Format.layout.signed ≡ false
  unsigned = g.met.F.Format.has_constants.signed_is ∙ sym c.SIGNED.ensures ∙ c.if-SIGNED.false

  pub granule : c.GRANULE.result ≡ g.F.Format.layout.granule
  granule = c.GRANULE.ensures ∙ sym g.met.F.Format.has_constants.granule_is

  pub granule' : c.GRANULE-2.result ≡ g.F.Format.layout.granule
  granule' = c.GRANULE-2.ensures ∙ sym g.met.F.Format.has_constants.granule_is

  pub first_is : c.args.va / 2 ^ c.GRANULE.result ≡ c.args.va / 2 ^ g.F.Format.layout.granule
  first_is = ap (λ (k : ℕ). c.args.va / 2 ^ k) granule

  pub count_is : c.args.len / 2 ^ c.GRANULE-2.result ≡ c.args.len / 2 ^ g.F.Format.layout.granule
  count_is = ap (λ (k : ℕ). c.args.len / 2 ^ k) granule'

pub overflow_add-first : goal.overflow_add-first
overflow_add-first g c =
    let f = g.F.Format.layout in
    let d = (goal.at.overflow_add-first g c).After-GRANULE-2 in
    let a = count_small f c.args.va g.met.F.Format.lawful_layout c.ranges.va.fits in
    let b = count_small f c.args.len g.met.F.Format.lawful_layout c.ranges.len.fits in
    let x = first_is g d in
    let y = count_is g d in
    omega arith

-- the end of the input, as the code makes it
end_is : (g : Over) (c : After-GRANULE-3 g) → 1 * 2 ^ (c.INPUT.result - c.GRANULE-3.result) % 2 ^ 64 ≡ 2 ^ (g.F.Format.layout.input - g.F.Format.layout.granule)
end_is g c =
    let l = g.met.F.Format.lawful_layout in
    let input : c.INPUT.result ≡ g.F.Format.layout.input = c.INPUT.ensures ∙ sym g.met.F.Format.has_constants.input_is in
    let page : c.GRANULE-3.result ≡ g.F.Format.layout.granule = c.GRANULE-3.ensures ∙ sym g.met.F.Format.has_constants.granule_is in
    one_shl (c.INPUT.result - c.GRANULE-3.result) 64 (omega (arith, input, page, l.pages_high)) ∙ (λ i. 2 ^ (input i - page i))

pub returns-then-first-count : goal.returns-then-first-count
returns-then-first-count g c =
    let a = (goal.at.returns-then-first-count g c).After-GRANULE-2 in
    let end = end_is g (goal.at.returns-then-first-count g c).After-GRANULE-3 in
    let x = first_is g a in let y = count_is g a in let test = c.if-first-count.true in
    let is = range_is g.met.F.Format.lawful_layout (unsigned g a) c.args.va c.args.len c.requires.whole_va c.requires.whole_len c.requires.some (omega arith) in
    (λ i. Some (span_of (x i, y i))) ∙ sym (ap (λ (o : Option (ℕ × ℕ)). option_map span_of o) is)

pub returns-else-first-count : goal.returns-else-first-count
returns-else-first-count g c =
    let a = (goal.at.returns-else-first-count g c).After-GRANULE-2 in
    let end = end_is g (goal.at.returns-else-first-count g c).After-GRANULE-3 in
    let x = first_is g a in let y = count_is g a in let test = c.if-first-count.false in
    sym (ap (λ (o : Option (ℕ × ℕ)). option_map span_of o)
    (range_none g.met.F.Format.lawful_layout (unsigned g a) c.args.va c.args.len c.requires.whole_va c.requires.whole_len c.requires.some (λ fits. omega arith)))

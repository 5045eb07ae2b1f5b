use Rattle.std.proofs.Common.{◌≡◌, ℕ, ◌-◌, ◌*◌, ◌/◌, ◌%◌, ◌^◌, inl, inr, ap, sym, ◌∙◌, arith}
use Rattle.std.proofs.lemmas.Nat.{one_shl}
use Rattle.pt_model.specs.Layout.{output_pages}
use Rattle.pt_format.proofs.PageFacts.{count_small}
use Rattle.pt_map.proofs.RequestNumbers.{outside, past_output, requested, small_range}
use Rattle.pt_map.proofs.request.extent_in.Given.{Over}
use Rattle.pt_map.proofs.request.extent_in.Goals.{After-GRANULE-2, then-range-span-via-then-range-span, then-range-span-via-else-range-span+then-end-span}
use Rattle.pt_map.proofs.request.extent_in.Goals as goal

pub overflow_add-end : goal.overflow_add-end
overflow_add-end g c =
    let small = small_range g.met.F.Format.lawful_layout c.args.va c.args.pa c.args.len
    (sym c.if-not-is_whole.ensures) (sym c.if-not-is_whole-2.ensures) (sym c.if-not-is_whole-3.ensures) (let ne = c.if-len-eq0.false in omega arith)
    c.in-Some.range c.in-Some.ensures c.ranges.len.fits in
    omega arith

pub returns-then-range-span-clause-refused : goal.returns-then-range-span-clause-refused
returns-then-range-span-clause-refused g c =
    outside g.met.F.Format.lawful_layout c.args.va c.args.pa c.args.len
    (sym c.if-not-is_whole.ensures) (sym c.if-not-is_whole-2.ensures) (sym c.if-not-is_whole-3.ensures) (let ne = c.if-len-eq0.false in omega arith)
    c.in-Some.range c.in-Some.ensures c.args.span.first c.args.span.count
    (elim c.then-range-span.branch [
      | then-range-span-via-then-range-span w ↦ inl w.if-range-span.true
      | then-range-span-via-else-range-span+then-end-span w ↦ inr w.if-end-span.true
    ])

pub overflow_add-out : goal.overflow_add-out
overflow_add-out g c =
    let f = g.F.Format.layout in
    let l = g.met.F.Format.lawful_layout in
    let small = small_range l c.args.va c.args.pa c.args.len
    (sym c.if-not-is_whole.ensures) (sym c.if-not-is_whole-2.ensures) (sym c.if-not-is_whole-3.ensures) (let ne = c.if-len-eq0.false in omega arith)
    c.in-Some.range c.in-Some.ensures c.ranges.len.fits in
    let out = count_small f c.args.pa l c.ranges.pa.fits in
    let is : c.args.pa / 2 ^ c.GRANULE.result ≡ c.args.pa / 2 ^ f.granule = ap (λ (k : ℕ). c.args.pa / 2 ^ k) (c.GRANULE.ensures ∙ sym g.met.F.Format.has_constants.granule_is) in
    omega arith

-- the page at which the output begins, and the output pages of the format, as the code makes them
module _ (g : Over) (c : After-GRANULE-2 g) where
  first_out : c.args.pa / 2 ^ c.GRANULE.result ≡ c.args.pa / 2 ^ g.F.Format.layout.granule
  first_out = ap (λ (k : ℕ). c.args.pa / 2 ^ k) (c.GRANULE.ensures ∙ sym g.met.F.Format.has_constants.granule_is)

  outputs : 1 * 2 ^ (c.OUTPUT.result - c.GRANULE-2.result) % 2 ^ 64 ≡ output_pages g.F.Format.layout
  outputs =
      let l = g.met.F.Format.lawful_layout in
      let is = g.met.F.Format.has_constants in
      let bits : c.OUTPUT.result - c.GRANULE-2.result ≡ g.F.Format.layout.output - g.F.Format.layout.granule = omega (arith, c.OUTPUT.ensures, is.output_is, c.GRANULE-2.ensures, is.granule_is) in
      one_shl (c.OUTPUT.result - c.GRANULE-2.result) 64 (omega (arith, bits, l.output_high)) ∙ ap (λ (k : ℕ). 2 ^ k) bits

pub returns-then-out-range-clause-refused : goal.returns-then-out-range-clause-refused
returns-then-out-range-clause-refused g c =
    let at = (goal.at.returns-then-out-range-clause-refused g c).After-GRANULE-2 in
    let low = c.if-range-span.false in
    let high = c.if-end-span.false in
    let over = c.if-out-range.true in
    past_output g.met.F.Format.lawful_layout c.args.va c.args.pa c.args.len
    (sym c.if-not-is_whole.ensures) (sym c.if-not-is_whole-2.ensures) (sym c.if-not-is_whole-3.ensures) (let ne = c.if-len-eq0.false in omega arith)
    c.in-Some.range c.in-Some.ensures c.args.span.first c.args.span.count (omega arith) (omega arith)
    (omega (arith, first_out g at, outputs g at, over))

pub returns-clause-asked : goal.returns-clause-asked
returns-clause-asked g c =
    let at = (goal.at.returns-clause-asked g c).After-GRANULE-2 in
    let low = c.if-range-span.false in
    let high = c.if-end-span.false in
    let under = c.if-out-range.false in
    requested g.met.F.Format.lawful_layout c.args.va c.args.pa c.args.len
    (sym c.if-not-is_whole.ensures) (sym c.if-not-is_whole-2.ensures) (sym c.if-not-is_whole-3.ensures) (let ne = c.if-len-eq0.false in omega arith)
    c.in-Some.range c.in-Some.ensures c.args.span.first c.args.span.count (omega arith) (omega arith)
    c.args.prot _ (first_out g at) c.requires.stated c.requires.within
    (omega (arith, outputs g at, under))

use Rattle.std.proofs.Common.{inl, inr, sym, arith}
use Rattle.pt_sweep.proofs.RangeNumbers.{outside, requested, small_range}
use Rattle.pt_sweep.proofs.request.range_in.Goals.{then-range-span-via-then-range-span, then-range-span-via-else-range-span+then-end-span}
use Rattle.pt_sweep.proofs.request.range_in.Goals as goal

pub overflow_add-end : goal.overflow_add-end
overflow_add-end g c =
    let small = small_range g.met.F.Format.lawful_layout c.args.va c.args.len
    (sym c.if-not-is_whole.ensures) (sym c.if-not-is_whole-2.ensures) (let ne = c.if-len-eq0.false in omega arith) c.in-Some.range c.in-Some.ensures c.ranges.len.fits in
    omega arith

pub returns-then-range-span-clause-refused : goal.returns-then-range-span-clause-refused
returns-then-range-span-clause-refused g c =
    outside g.met.F.Format.lawful_layout c.args.va c.args.len
    (sym c.if-not-is_whole.ensures) (sym c.if-not-is_whole-2.ensures) (let ne = c.if-len-eq0.false in omega arith) c.in-Some.range c.in-Some.ensures c.args.span.first c.args.span.count
    (elim c.then-range-span.branch [
      | then-range-span-via-then-range-span w ↦ inl w.if-range-span.true
      | then-range-span-via-else-range-span+then-end-span w ↦ inr w.if-end-span.true
    ])

pub returns-clause-asked : goal.returns-clause-asked
returns-clause-asked g c =
    let low = c.if-range-span.false in
    let high = c.if-end-span.false in
    requested g.met.F.Format.lawful_layout c.args.va c.args.len
    (sym c.if-not-is_whole.ensures) (sym c.if-not-is_whole-2.ensures) (let ne = c.if-len-eq0.false in omega arith) c.in-Some.range c.in-Some.ensures c.args.span.first c.args.span.count (omega arith) (omega arith)

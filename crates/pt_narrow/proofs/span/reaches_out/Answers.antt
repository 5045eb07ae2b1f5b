use Rattle.std.proofs.Common.{◌-◌, ◌<◌, ◌≤◌, inl, inr, ap, sym, ◌∙◌, arith}
use Rattle.std.proofs.lemmas.Bool.{lt-ltb, ltb-false, ltb-true, true≢false}
use Rattle.pt_model.specs.Pages.{pages_at}
use Rattle.pt_narrow.specs.Standing.{leaves}
use Rattle.pt_narrow.proofs.Reaching.{left_by_end, left_out, paged}
use Rattle.pt_narrow.proofs.span.reaches_out.Goals as goal
use Rattle.pt_narrow.proofs.span.reaches_out.Goals.{then-range-span, else-range-span}

pub returns-then-range-span-2 : goal.returns-then-range-span-2
returns-then-range-span-2 g c =
    let span = c.args.span in
    let range = c.in-Some.range in
    let at = paged (pages_at g.F.Format.layout c.args.va c.args.len) range c.in-Some.ensures in
    c.if-range-span-2.true
    ∙ sym
    (ap (leaves span.first span.count) at
    ∙ elim c.if-range-span.branch [
      | then-range-span w ↦ let before = w.if-range-span.true in left_out span.first span.count range.first range.count (inl before)
      | else-range-span w ↦
          let from = w.if-range-span.false in
          let far : span.count < range.first - span.first = ltb-true span.count (range.first - span.first) (sym w.value-is ∙ c.if-range-span-2.true) in
          left_out span.first span.count range.first range.count (inr (omega arith))
    ])

pub returns-else-range-span-2 : goal.returns-else-range-span-2
returns-else-range-span-2 g c =
    let span = c.args.span in
    let range = c.in-Some.range in
    let at = paged (pages_at g.F.Format.layout c.args.va c.args.len) range c.in-Some.ensures in
    elim c.if-range-span.branch [
      | then-range-span w ↦ absurd (true≢false (sym (lt-ltb range.first span.first w.if-range-span.true) ∙ sym w.value-is ∙ c.if-range-span-2.false))
      | else-range-span w ↦
          let from = w.if-range-span.false in
          let room : range.first - span.first ≤ span.count = ltb-false span.count (range.first - span.first) (sym w.value-is ∙ c.if-range-span-2.false) in
          left_by_end span.first span.count range.first range.count (omega arith) room ∙ sym (ap (leaves span.first span.count) at)
    ]

use Rattle.std.proofs.Common.{◌≡◌, ◌-◌, sym, ◌∙◌, arith}
use Rattle.std.proofs.lemmas.Bool.{ltb-false, ltb-true}
use Rattle.pt_model.specs.Layout.{pages_of_table}
use Rattle.pt_book.proofs.PositionFacts.{above_short, last_reaches, top_here}
use Rattle.pt_book.proofs.tables.least_top.Goals as goal

pub returns-then-not-ends_before-clause-top : goal.returns-then-not-ends_before-clause-top
returns-then-not-ends_before-clause-top g c =
    let f = g.F.Format.layout in
    top_here f c.args.levels c.args.last c.loop-top.top (omega arith) c.loop-top.invariant
    (ltb-false (pages_of_table f c.loop-top.top) c.args.last (sym c.if-not-ends_before.ensures))

pub loop-top-preserved : goal.loop-top-preserved
loop-top-preserved g c =
    let f = g.F.Format.layout in
    let levels : c.LEVELS-top-end.result ≡ f.levels = c.LEVELS-top-end.ensures ∙ sym g.met.F.Format.has_constants.levels_is in
    above_short f c.args.levels c.args.last c.loop-top.top (omega (arith, levels)) c.loop-top.invariant
    (ltb-true (pages_of_table f c.loop-top.top) c.args.last (sym c.if-not-ends_before.ensures))

pub returns-clause-top : goal.returns-clause-top
returns-clause-top g c =
    let f = g.F.Format.layout in
    let l = g.met.F.Format.lawful_layout in
    let levels : c.LEVELS.result ≡ f.levels = c.LEVELS.ensures ∙ sym g.met.F.Format.has_constants.levels_is in
    top_here f c.args.levels c.args.last (c.LEVELS.result - 1) (omega arith) (omega arith)
    (last_reaches f l c.args.last (c.LEVELS.result - 1) c.requires.in_space (omega (arith, levels, l.start_low, l.start_high)))

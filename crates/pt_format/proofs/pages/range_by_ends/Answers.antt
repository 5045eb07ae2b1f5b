use Rattle.std.proofs.Common.{◌≡◌, ◌+◌, ◌/◌, ◌^◌, ◌<◌, ◌∙◌, sym, ap, arith, true, false, refl}
use Rattle.std.specs.Prelude.{◌==◌}
use Rattle.std.proofs.lemmas.Bool.{eq-eqb, ne_eqb}
use Rattle.pt_model.specs.Pages.{page_under}
use Rattle.pt_format.proofs.PageFacts.{pages_small, count_small, range_tested}
use Rattle.pt_format.proofs.pages.range_by_ends.Goals as goal

pub overflow_add-first : goal.overflow_add-first
overflow_add-first g c =
    let f = g.F.Format.layout in
    let granule : c.GRANULE.result ≡ f.granule = c.GRANULE.ensures ∙ sym g.met.F.Format.has_constants.granule_is in
    let few : c.args.len / 2 ^ c.GRANULE.result < 2 ^ 52 = rw granule (count_small f c.args.len g.met.F.Format.lawful_layout (omega arith)) in
    omega (arith, c.page_under-first.ensures.within, pages_small f g.met.F.Format.lawful_layout)

pub overflow_add-page_under : goal.overflow_add-page_under
overflow_add-page_under g c =
    omega (arith, c.page_under.ensures.within, pages_small g.F.Format.layout g.met.F.Format.lawful_layout)

pub returns-then-first-count : goal.returns-then-first-count
returns-then-first-count g c =
    let f = g.F.Format.layout in
    let granule : c.GRANULE.result ≡ f.granule = c.GRANULE.ensures ∙ sym g.met.F.Format.has_constants.granule_is in
    let count : c.args.len / 2 ^ c.GRANULE.result ≡ c.args.len / 2 ^ f.granule = ap (λ n. c.args.len / 2 ^ n) granule in
    let runs : page_under f c.args.va + c.args.len / 2 ^ f.granule ≡ page_under f c.in_ok-last.last + 1 =
    cc (c.if-first-count.true, c.page_under-first.ensures.page, c.page_under.ensures.page) in
    let range_is = range_tested f c.args.va c.args.len c.in_ok-last.last true c.requires.some (omega (arith, c.in_ok-last.ensures.1, c.requires.some)) (omega (arith, c.in_ok-last.ensures.0, c.in_ok-last.ensures.1))
    (sym c.has_page.ensures ∙ c.if-not-has_page.false) (sym c.has_page-else-not-has_page.ensures ∙ c.if-not-has_page-2.false) (eq-eqb _ _ runs) in
    rw (range_is, c.page_under-first.ensures.page, count) refl

pub returns-else-first-count : goal.returns-else-first-count
returns-else-first-count g c =
    let f = g.F.Format.layout in
    let granule : c.GRANULE.result ≡ f.granule = c.GRANULE.ensures ∙ sym g.met.F.Format.has_constants.granule_is in
    let runs : (page_under f c.args.va + c.args.len / 2 ^ f.granule == page_under f c.in_ok-last.last + 1) ≡ false =
    ne_eqb _ _ (λ e. c.if-first-count.false (cc (e, granule, c.page_under-first.ensures.page, c.page_under.ensures.page))) in
    let range_is = range_tested f c.args.va c.args.len c.in_ok-last.last false c.requires.some (omega (arith, c.in_ok-last.ensures.1, c.requires.some)) (omega (arith, c.in_ok-last.ensures.0, c.in_ok-last.ensures.1))
    (sym c.has_page.ensures ∙ c.if-not-has_page.false) (sym c.has_page-else-not-has_page.ensures ∙ c.if-not-has_page-2.false) runs in
    rw range_is refl

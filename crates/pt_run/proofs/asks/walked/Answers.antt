use Rattle.std.proofs.Common.{sym, subst, ap, ◌∙◌}
use Rattle.pt_model.specs.Layout.{Layout}
use Rattle.pt_model.specs.Words.{IsSpace}
use Rattle.fmt_nine_bit.specs.OverPages.{reached}
use Rattle.pt_run.proofs.AskFacts.{is_space, none_found, not_strange, page_found}
use Rattle.pt_run.proofs.asks.walked.Goals as goal

pub walk-requires : goal.walk-requires
walk-requires g c = subst (λ (f : Layout). IsSpace f c.args.words.now) (sym c.requires.name) (is_space g.F.Format.layout c.args.frames c.args.words.now c.requires.closed)

pub unreachable-requires : goal.unreachable-requires
unreachable-requires g c =
    not_strange g.F.Format.layout g.met.F.Format.lawful_layout g.met.F.Format.steps_agree g.met.F.Format.is_walk c.args.name c.requires.name
    c.args.frames c.args.words.now c.requires.closed c.args.va c.ranges.va.fits (ap reached (sym c.in-Alien.is) ∙ c.walk.ensures)

pub returns-in-Page : goal.returns-in-Page
returns-in-Page g c closed =
    page_found g.F.Format.layout g.met.F.Format.lawful_layout g.met.F.Format.steps_agree g.met.F.Format.is_walk c.args.name c.requires.name
    c.args.frames c.args.words.now closed c.args.va c.ranges.va.fits c.in-Page.out c.in-Page.prot (ap reached (sym c.in-Page.is) ∙ c.walk.ensures)

pub returns-in-None : goal.returns-in-None
returns-in-None g c closed =
    none_found g.F.Format.layout g.met.F.Format.lawful_layout g.met.F.Format.steps_agree g.met.F.Format.is_walk c.args.name c.requires.name
    c.args.frames c.args.words.now closed c.args.va c.ranges.va.fits (ap reached (sym c.in-None.is) ∙ c.walk.ensures)

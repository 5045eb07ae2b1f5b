use Rattle.std.proofs.Common.{◌≡◌, ◌/◌, ◌^◌, ◌∙◌, sym}
use Rattle.pt_model.specs.Pages as Pages
use Rattle.pt_format.proofs.PageFacts.{under_within}
use Rattle.pt_format.proofs.pages.page_under.Goals as goal

pub returns-clause-within : goal.returns-clause-within
returns-clause-within g c =
    let f = g.F.Format.layout in
    let granule : c.GRANULE.result ≡ f.granule = c.GRANULE.ensures ∙ sym g.met.F.Format.has_constants.granule_is in
    let input : c.INPUT.result ≡ f.input = c.INPUT.ensures ∙ sym g.met.F.Format.has_constants.input_is in
    let page : c.low_bits.result / 2 ^ c.GRANULE.result ≡ Pages.page_under f c.args.address =
    rw granule (rw (c.low_bits.ensures, input) (cc)) in
    rw page (under_within f c.args.address g.met.F.Format.lawful_layout.input_low)

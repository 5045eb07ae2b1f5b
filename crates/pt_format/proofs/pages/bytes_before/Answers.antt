use Rattle.std.proofs.Common.{◌≡◌, ◌∙◌, sym}
use Rattle.pt_format.proofs.PageFacts.{page_start, start_fits}
use Rattle.pt_format.proofs.pages.bytes_before.Goals as goal

bytes : goal.returns-clause-bytes
bytes g c =
    let f = g.F.Format.layout in
    let granule : c.GRANULE.result ≡ f.granule = c.GRANULE.ensures ∙ sym g.met.F.Format.has_constants.granule_is in
    rw granule (start_fits f c.args.page g.met.F.Format.lawful_layout c.requires)

pub returns-clause-bytes : goal.returns-clause-bytes
returns-clause-bytes g c = bytes g c

pub returns-clause-within : goal.returns-clause-within
returns-clause-within g c =
    let f = g.F.Format.layout in
    rw (bytes g c) (page_start f c.args.page g.met.F.Format.lawful_layout c.requires)

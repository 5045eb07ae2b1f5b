use Rattle.std.proofs.Common.{◌∙◌}
use Rattle.fmt_vmsa.specs.VmsaSizes.{entry_of}
use Rattle.fmt_vmsa.specs.VmsaLaws.{entry_found, entry_within}
use Rattle.fmt_vmsa.proofs.VmsaCode.{own_page}
use Rattle.fmt_vmsa.proofs.instances.VmsaFormat.out_of.Goals as goal

pub returns-clause-page : goal.returns-clause-page
returns-clause-page g c = λ log2 prot l.
    let is = g.bound-1.is_granule in
    let x = entry_of is l.may c.args.word l.word_is in
    let own = (rw c.LOG2.ensures at c.page_in-own.ensures.page) ∙ own_page is x in
    rw (c.entry_pages.ensures, own, c.LOG2-2.ensures) (entry_found is x c.args.page)

pub returns-clause-within : goal.returns-clause-within
returns-clause-within g c =
    let is = g.bound-1.is_granule in
    let l = c.requires.a_leaf.2 in
    let x = entry_of is l.may c.args.word l.word_is in
    let own = (rw c.LOG2.ensures at c.page_in-own.ensures.page) ∙ own_page is x in
    rw (c.entry_pages.ensures, own, c.LOG2-2.ensures) (entry_within is x c.args.page)

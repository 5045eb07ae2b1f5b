use Rattle.std.proofs.Common.{List, ap, ap₂, ◌∙◌}
use Rattle.std.specs.Prelude.{filter}
use Rattle.pt_model.specs.declared.block.Block.{Block}
use Rattle.pt_model.specs.Layout.{input_pages}
use Rattle.pt_model.specs.Book.{lies_in}
use Rattle.pt_model.specs.Unmap.{pages_in}
use Rattle.pt_book.specs.Spaces.{Space}
use Rattle.pt_book.proofs.ListFacts.{all_lie_in}
use Rattle.pt_book.proofs.list_book.ListBook.mapped_pages.Goals as goal

pub returns : goal.returns
returns g c =
    let bs = c.self.inside.blocks.items in
    let legal = c.self.invariant.1 in
    c.pages_within.ensures
    ∙ ap₂ (λ (end : _) (xs : List Block). pages_in (filter (lies_in 0 end) xs)) c.space_pages.ensures c.deref.ensures.value
    ∙ ap pages_in (all_lie_in (input_pages g.F.Format.layout) bs (λ k d h. (legal k d h).in_input))
    ∙ ap (λ (s : Space). pages_in s.book.blocks) c.self.view_is

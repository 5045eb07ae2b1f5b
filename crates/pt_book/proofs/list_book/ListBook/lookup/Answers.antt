use Rattle.std.proofs.Common.{◌+◌, List, ap, ◌∙◌}
use Rattle.std.specs.Prelude.{find}
use Rattle.pt_model.specs.declared.block.Block.{Block}
use Rattle.pt_model.specs.Layout.{IsLegalBlock}
use Rattle.pt_model.specs.Book.{meets}
use Rattle.pt_book.proofs.ListFacts.{found_is}
use Rattle.pt_book.proofs.list_book.ListBook.lookup.Goals as goal

pub output_of-out-requires-clause-legal : goal.output_of-out-requires-clause-legal
output_of-out-requires-clause-legal g c =
    let page = c.page_under-page.result in
    (found_is (IsLegalBlock g.F.Format.layout) (meets page (page + 1)) c.self.inside.blocks.items c.in_ok-block.block c.self.invariant.1
    (c.in_ok-block.ensures ∙ ap (λ (xs : List Block). find (meets page (page + 1)) xs) c.deref.ensures.value)).0

pub output_of-out-requires-clause-of : goal.output_of-out-requires-clause-of
output_of-out-requires-clause-of g c =
    let page = c.page_under-page.result in
    (found_is (IsLegalBlock g.F.Format.layout) (meets page (page + 1)) c.self.inside.blocks.items c.in_ok-block.block c.self.invariant.1
    (c.in_ok-block.ensures ∙ ap (λ (xs : List Block). find (meets page (page + 1)) xs) c.deref.ensures.value)).1

use Rattle.std.proofs.Common.{◌≡◌, List, Some, ap, ◌∙◌}
use Rattle.std.specs.Prelude.{find}
use Rattle.pt_model.specs.declared.block.Block.{Block}
use Rattle.pt_model.specs.Layout.{IsLegalBlock}
use Rattle.pt_model.specs.Cuts.{crosses}
use Rattle.pt_book.proofs.ListFacts.{found_is}
use Rattle.pt_book.proofs.list_book.ListBook.cut_refusal.Goals as goal

pub returns-clause-legal : goal.returns-clause-legal
returns-clause-legal g c =
    let some : Some c.in_ok-block.block ≡ find (crosses c.in-Some.page) c.self.inside.blocks.items =
    c.in_ok-block.ensures ∙ ap (λ (xs : List Block). find (crosses c.in-Some.page) xs) c.deref.ensures.value in
    (found_is (IsLegalBlock g.F.Format.layout) (crosses c.in-Some.page) c.self.inside.blocks.items c.in_ok-block.block c.self.invariant.1 some).0

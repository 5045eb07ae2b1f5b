use Rattle.std.proofs.Common.{◌++◌, List, ap, sym, ◌∙◌}
use Rattle.std.proofs.lemmas.List.{append-nil}
use Rattle.pt_model.specs.declared.block.Block.{Block}
use Rattle.pt_book.proofs.ListFacts.{none_left}
use Rattle.pt_book.proofs.lists.push_before.Goals as goal

pub returns-then-block-page-clause-pushed : goal.returns-then-block-page-clause-pushed
returns-then-block-page-clause-pushed c =
    let none = none_left c.args.page c.args.blocks.now c.loop-next.next _ c.requires.in_order c.loop-next-test.true c.if-block-page.true in
    sym (append-nil c.loop-next.out.items)
    ∙ ap (λ (xs : List Block). c.loop-next.out.items ++ xs) (sym none.0)
    ∙ c.loop-next.invariant.0

pub returns-then-block-page-clause-rest : goal.returns-then-block-page-clause-rest
returns-then-block-page-clause-rest c =
    let none = none_left c.args.page c.args.blocks.now c.loop-next.next _ c.requires.in_order c.loop-next-test.true c.if-block-page.true in
    sym none.1 ∙ c.loop-next.invariant.1

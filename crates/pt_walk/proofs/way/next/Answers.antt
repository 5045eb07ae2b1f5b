use Rattle.std.proofs.Common.{◌∙◌}
use Rattle.pt_walk.proofs.LeftBlocks.{left_none}
use Rattle.pt_walk.proofs.way.next.Goals as goal

pub returns-clause-comes : goal.returns-clause-comes
returns-clause-comes g c = λ blocks rest.
    let none = left_none c.loop-way.way.at c.loop-way.way.end blocks c.loop-way-test.false in
    (c.loop-way.invariant.left blocks rest ∙ none, none)

use Rattle.std.proofs.Common.{◌+◌}
use Rattle.std.specs.Prelude.{List}
use Rattle.pt_model.specs.declared.block.Block.{Block}
use Rattle.pt_model.specs.Book.{meets}
use Rattle.pt_walk.specs.RangeWalks.{left_of}
use Rattle.pt_walk.proofs.LeftBlocks.{next_found, next_none}
use Rattle.pt_walk.proofs.walker.next_block.Goals as goal

pub returns-clause-found : goal.returns-clause-found
returns-clause-found g c = λ blocks rest some.
    next_found (meets c.args.span.first (c.args.span.first + c.args.span.count)) blocks c.next-block.result (left_of c.begin-walk.result blocks) (left_of c.next-block.new.self blocks)
    (c.begin-walk.ensures.left blocks rest some) (c.next-block.ensures.comes blocks (c.begin-walk.ensures.rest blocks rest))

pub returns-clause-nothing : goal.returns-clause-nothing
returns-clause-nothing g c = λ none.
    let blocks : List Block = c.requires.rest.0 in
    next_none c.next-block.result (left_of c.begin-walk.result blocks) (left_of c.next-block.new.self blocks) (c.begin-walk.ensures.nothing blocks none)
    (c.next-block.ensures.comes blocks (c.begin-walk.ensures.rest blocks c.requires.rest.1))

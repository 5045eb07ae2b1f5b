use Rattle.std.proofs.Common.{◌∙◌, arith}
use Rattle.pt_view.proofs.Loads.{loads_on}
use Rattle.pt_view.proofs.Stays.{stays_on}
use Rattle.pt_walk.proofs.Descent.{owns_on}
use Rattle.pt_walk.proofs.Ranges.{clear_on, finds_on, range_from}
use Rattle.pt_walk.proofs.range.look_below.Goals as goal

pub returns-then-is_empty_over-clause-under : goal.returns-then-is_empty_over-clause-under
returns-then-is_empty_over-clause-under g c = c.is_empty_over.ensures.nothing c.if-is_empty_over.true

-- not all entries are empty: the way goes through them

pub first_below-requires-clause-range : goal.first_below-requires-clause-range
first_below-requires-clause-range g c =
    let look = c.is_empty_over.ensures in let some = c.requires.range.some in
    range_from look.walked.range look.path c.requires.range c.args.first c.args.end (omega arith) some (omega arith)

pub first_below-requires-clause-owns : goal.first_below-requires-clause-owns
first_below-requires-clause-owns g c = let look = c.is_empty_over.ensures in owns_on g.F.Format.layout look.walked.range look.walked.book c.requires.owns

pub returns-else-is_empty_over-clause-stays : goal.returns-else-is_empty_over-clause-stays
returns-else-is_empty_over-clause-stays g c = stays_on c.is_empty_over.ensures.stays c.first_below.ensures.stays

pub returns-else-is_empty_over-clause-walked : goal.returns-else-is_empty_over-clause-walked
returns-else-is_empty_over-clause-walked g c = loads_on c.is_empty_over.ensures.walked c.first_below.ensures.walked

pub returns-else-is_empty_over-clause-path : goal.returns-else-is_empty_over-clause-path
returns-else-is_empty_over-clause-path g c = c.first_below.ensures.path ∙ c.is_empty_over.ensures.path

pub returns-else-is_empty_over-clause-under : goal.returns-else-is_empty_over-clause-under
returns-else-is_empty_over-clause-under g c = λ clear.
    let f = g.F.Format.layout in
    let same = c.is_empty_over.ensures.walked.book in
    finds_on f c.args.first c.args.end c.args.level c.first_below.result same
    (c.first_below.ensures.under (clear_on f c.args.first c.args.end c.args.level same clear))

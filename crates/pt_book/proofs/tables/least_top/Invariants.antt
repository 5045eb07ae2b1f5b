use Rattle.std.proofs.Common.{◌≤◌}
use Rattle.pt_model.specs.Tables.{least_top}
use Rattle.pt_book.proofs.tables.least_top.Given as goal

-- the least top is none of the levels before
abbrev pub invariant-loop-top : goal.invariant-loop-top
invariant-loop-top g l = l.top ≤ least_top g.F.Format.layout l.levels l.last

use Rattle.std.proofs.Common.{◌-◌}
use Rattle.table_cases.proofs.tests.runs_of.Given as goal

abbrev pub decreases-loop-gone : goal.decreases-loop-gone
decreases-loop-gone g l = l.span.count - l.gone

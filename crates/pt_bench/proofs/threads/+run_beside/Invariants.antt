use Rattle.std.proofs.Common.{◌+◌, ◌*◌}
use Rattle.pt_bench.proofs.threads.+run_beside.Given as goal

abbrev pub decreases-run_beside : goal.decreases-run_beside
decreases-run_beside g l = 2 * l.halvings

abbrev pub decreases-join+arg2 : goal.decreases-join+arg2
decreases-join+arg2 g l = 2 * l.fewer + 1

abbrev pub decreases-join+arg3 : goal.decreases-join+arg3
decreases-join+arg3 g l = 2 * l.fewer + 1

use Rattle.pt_bench.proofs.leased.+run_low.Given as goal

abbrev pub decreases-run_low : goal.decreases-run_low
decreases-run_low g l = l.halvings

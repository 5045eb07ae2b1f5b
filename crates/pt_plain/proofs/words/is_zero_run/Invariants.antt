use Rattle.std.proofs.Common.{◌≡◌}
use Rattle.pt_plain.specs.Owner.{IsZeroRun}
use Rattle.pt_plain.proofs.words.is_zero_run.Given as goal

abbrev pub invariant-loop-looked : goal.invariant-loop-looked
invariant-loop-looked g l = record {
  zero : l.all ≡ 0 → IsZeroRun l.fn.words l.place l.looked;
}

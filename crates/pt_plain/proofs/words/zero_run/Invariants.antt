use Rattle.std.proofs.Common.{◌≡◌, ◌+◌}
use Rattle.pt_plain.specs.Owner.{nonzero_in, set_run}
use Rattle.pt_plain.proofs.words.zero_run.Given as goal

abbrev pub invariant-loop-done : goal.invariant-loop-done
invariant-loop-done g l = record {
  set : l.words ≡ set_run l.initial.words l.place l.done 0 0;
  number : l.empty + nonzero_in l.initial.words l.place l.done ≡ l.done;
}

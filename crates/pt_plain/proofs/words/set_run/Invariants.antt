use Rattle.std.proofs.Common.{◌≡◌, ◌+◌, ◌*◌, ◌%◌, ◌^◌}
use Rattle.pt_model.specs.Words.{entry_place}
use Rattle.pt_plain.specs.Owner.{set_run}
use Rattle.pt_plain.proofs.words.set_run.Given as goal

abbrev pub invariant-loop-i : goal.invariant-loop-i
invariant-loop-i g l = record {
  set : l.words ≡ set_run l.initial.words (entry_place g.F.Format.layout l.frames l.frame l.first) l.i l.word l.step;
  next_is : l.next ≡ (l.word + l.i * l.step) % 2 ^ 64;
}

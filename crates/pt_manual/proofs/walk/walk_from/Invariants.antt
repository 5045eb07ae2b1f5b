use Rattle.std.proofs.Common.{◌≡◌, ◌<◌, length, true}
use Rattle.pt_model.specs.Words.{frames_of}
use Rattle.pt_manual.specs.NineBitWalk.{walk_from}
use Rattle.pt_manual.proofs.walk.walk_from.Given as goal

abbrev pub invariant-loop-level : goal.invariant-loop-level
invariant-loop-level g l = record {
  a_frame : l.frame < frames_of 9 (length l.words);
  same_walk :
      walk_from g.E.Entries.manual l.words l.address l.level l.frame l.read l.write
      ≡ walk_from g.E.Entries.manual l.words l.address l.tables l.top true true;
}

use Rattle.std.proofs.Common.{◌≡◌, ◌-◌, ◌<◌, length}
use Rattle.pt_model.specs.Words.{frames_of}
use Rattle.pt_manual.specs.VmsaWalk.{index_bits, walk, walk_from}
use Rattle.pt_manual.proofs.vmsa.walk_vmsa.Given as goal

abbrev pub invariant-loop-level : goal.invariant-loop-level
invariant-loop-level l = record {
  a_frame : l.frame < frames_of (index_bits l.granule) (length l.words);
  same_walk : walk_from l.granule l.words l.address (4 - l.level) l.frame ≡ walk l.words l.granule l.address;
}

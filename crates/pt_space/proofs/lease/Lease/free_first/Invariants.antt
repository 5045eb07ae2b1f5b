use Rattle.std.proofs.Common.{take}
use Rattle.pt_rule.specs.Kinds.{free, look_tag}
use Rattle.pt_space.proofs.lease.Lease.free_first.Given as goal

abbrev pub ghosts-load : goal.ghosts-load
ghosts-load g a = record { kind = look_tag a._at.frame; path = take a._at.depth a.seat.now.me.0.path }

abbrev pub ghosts-store : goal.ghosts-store
ghosts-store g a = record { kind = free a._at.frame; path = a.seat.now.me.0.path }

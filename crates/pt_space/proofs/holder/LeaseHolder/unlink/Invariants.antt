use Rattle.std.proofs.Common.{take}
use Rattle.pt_rule.specs.Kinds.{look, unlink, unplace}
use Rattle.pt_space.proofs.holder.LeaseHolder.unlink.Given as goal

abbrev pub ghosts-load : goal.ghosts-load
ghosts-load g a = record { kind = look a._at.frame a._at.number; path = take a._at.depth a.seat.now.me.0.path }

abbrev pub ghosts-store_zero : goal.ghosts-store_zero
ghosts-store_zero g a = record { kind = unlink a.at.frame a.at.number; path = a.seat.now.me.0.path }

abbrev pub ghosts-store : goal.ghosts-store
ghosts-store g a = record { kind = unplace a._at.frame; path = a.seat.now.me.0.path }

use Rattle.std.proofs.Common.{take}
use Rattle.pt_rule.specs.Kinds.{clear}
use Rattle.pt_space.proofs.lease.Lease.clear_at.Given as goal

abbrev pub ghosts-store_piece : goal.ghosts-store_piece
ghosts-store_piece g a = record { kind = clear a._at.frame a._at.number; path = take a._at.depth a.seat.now.me.0.path }

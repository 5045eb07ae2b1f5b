use Rattle.std.proofs.Common.{take}
use Rattle.pt_space.proofs.Growths.{bridging, raising, unbridging}
use Rattle.pt_space.proofs.holder.LeaseHolder.grow.Given as goal

abbrev pub ghosts-store : goal.ghosts-store
ghosts-store g a = record { kind = bridging a._at.frame (take a._at.depth a.seat.now.me.0.path); path = take a._at.depth a.seat.now.me.0.path }

abbrev pub ghosts-exchange : goal.ghosts-exchange
ghosts-exchange g a = record { kind = raising a.old a.new; path = a.seat.now.me.0.path }

abbrev pub ghosts-store_zero : goal.ghosts-store_zero
ghosts-store_zero g a = record { kind = unbridging a.at.frame a.seat.now.me.0.prepared; path = a.seat.now.me.0.path }

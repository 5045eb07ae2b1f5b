use Rattle.std.proofs.Common.{take}
use Rattle.pt_model.specs.Words.{placed_at}
use Rattle.pt_rule.specs.Kinds.{look_tag, place}
use Rattle.pt_space.proofs.holder.LeaseHolder.place.Given as goal

abbrev pub ghosts-load : goal.ghosts-load
ghosts-load g a = record { kind = look_tag a._at.frame; path = take a._at.depth a.seat.now.me.0.path }

abbrev pub ghosts-store : goal.ghosts-store
ghosts-store g a = record { kind = place a._at.frame (placed_at a.new); path = a.seat.now.me.0.path }

use Rattle.std.proofs.Common.{◌≡◌, [], take, drop}
use Rattle.std.specs.Prelude.{None}
use Rattle.pt_rule.specs.Tags.{first_or}
use Rattle.pt_rule.specs.Kinds.{look_tag, retrace}
use Rattle.pt_space.specs.Cuts.{last_of}
use Rattle.pt_rule.specs.Holds.{Holds}
use Rattle.pt_space.proofs.cut.walk.Given as goal

abbrev pub ghosts-load : goal.ghosts-load
ghosts-load g a = record { kind = look_tag a._at.frame; path = [] }

abbrev pub invariant-loop-i : goal.invariant-loop-i
invariant-loop-i g l = record {
  table : l.seat.table_id ≡ l.initial.seat.table_id;
  id : l.seat.id ≡ l.initial.seat.id;
  slots : l.seat.me.1 ≡ l.initial.seat.me.1;
  view : retrace [] l.seat.me.0 ≡ retrace [] l.initial.seat.me.0;
  holds : Holds g.F.Format.layout l.space.frames l.space.levels l.seat.me.0;
  last : last_of (take l.i l.initial.seat.me.0.purse) ≡ l.last;
  next : first_or None (drop l.i l.initial.seat.me.0.purse) ≡ l.next;
}

use Rattle.std.proofs.Common.{length, ◌-◌}
use Rattle.pt_stream.proofs.Pieces.{Reading}
use Rattle.pt_stream.proofs.whole.read_all.Given as goal

abbrev pub invariant-pieces : goal.invariant-pieces
invariant-pieces g l =
    Reading (g.S.Source.left l.initial.source) (g.S.Source.left l.source) (g.S.Source.given l.initial.source) (g.S.Source.given l.source)
    (g.S.Source.faults l.initial.source) (g.S.Source.faults l.source) l.limit l.bytes.items

abbrev pub decreases-pieces : goal.decreases-pieces
decreases-pieces g l = l.limit - length l.bytes.items

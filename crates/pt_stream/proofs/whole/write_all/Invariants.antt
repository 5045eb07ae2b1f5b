use Rattle.std.proofs.Common.{length, ◌-◌}
use Rattle.pt_stream.proofs.Pieces.{Writing}
use Rattle.pt_stream.proofs.whole.write_all.Given as goal

abbrev pub invariant-pieces : goal.invariant-pieces
invariant-pieces g l =
    Writing (g.K.Sink.room l.initial.sink) (g.K.Sink.room l.sink) (g.K.Sink.held l.initial.sink) (g.K.Sink.held l.sink) (g.K.Sink.faults l.initial.sink) (g.K.Sink.faults l.sink) l.done l.bytes

abbrev pub decreases-pieces : goal.decreases-pieces
decreases-pieces g l = length l.bytes - l.done

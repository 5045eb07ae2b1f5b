use Rattle.std.proofs.KnownBytes.{Consumes-trans}
use Rattle.pt_stream.proofs.whole.read_all.Goals as goal

pub returns-then-limit-len-clause-rest : goal.returns-then-limit-len-clause-rest
returns-then-limit-len-clause-rest g c = (_, Consumes-trans _ _ _ _ _ c.pieces.invariant.taken c.in-Ok.ensures.bytes.0)

pub returns-in_err-map_err-clause-rest : goal.returns-in_err-map_err-clause-rest
returns-in_err-map_err-clause-rest g c = (_, Consumes-trans _ _ _ _ _ c.pieces.invariant.taken c.in-Ok.ensures.bytes.0)

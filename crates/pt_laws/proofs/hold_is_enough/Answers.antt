use Rattle.pt_laws.proofs.NeedRuns.{hold_is_enough}
use Rattle.pt_laws.proofs.hold_is_enough.Goals as goal

pub returns : goal.returns
returns c = hold_is_enough

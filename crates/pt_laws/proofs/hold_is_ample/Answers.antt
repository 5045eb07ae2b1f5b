use Rattle.pt_laws.proofs.Calm.{hold_is_ample}
use Rattle.pt_laws.proofs.hold_is_ample.Goals as goal

pub returns : goal.returns
returns c = hold_is_ample

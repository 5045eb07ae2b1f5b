use Rattle.pt_laws.proofs.NeedRuns.{need_is_enough}
use Rattle.pt_laws.proofs.need_is_enough.Goals as goal

pub returns : goal.returns
returns c = need_is_enough

use Rattle.pt_laws.proofs.Loop.{each_keeps}
use Rattle.pt_laws.proofs.each_keeps.Goals as goal

pub returns : goal.returns
returns c = each_keeps

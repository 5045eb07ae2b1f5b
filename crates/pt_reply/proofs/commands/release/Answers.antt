use Rattle.pt_reply.proofs.RestBlocks.{released}
use Rattle.pt_reply.proofs.commands.release.Goals as goal

pub returns-clause-releases : goal.returns-clause-releases
returns-clause-releases g c = released g.F.Format.layout _ _ c.requires.ready c.release.ensures.released

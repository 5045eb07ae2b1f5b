use Rattle.std.proofs.Common.{ap}
use Rattle.pt_reply.proofs.RestBlocks.{ready_at}
use Rattle.pt_run.proofs.SharedFacts.{saved_pages}
use Rattle.pt_run.proofs.shared.run_from.Goals as goal

pub run_whole-requires-clause-all : goal.run_whole-requires-clause-all
run_whole-requires-clause-all g c κs within = saved_pages g.F.Format.layout c.args.sound c.in_ok-space.pass.view c.in_ok-space.ensures.view

pub run_whole-requires-clause-ready : goal.run_whole-requires-clause-ready
run_whole-requires-clause-ready g c κs within = ready_at g.F.Format.layout c.in_ok-space.pass.view c.in_ok-space.ensures.rest.1

use Rattle.pt_walk.proofs.WalkSteps.{rest_on}
use Rattle.pt_walk.proofs.walker.RangeWalk.next.Goals as goal

pub returns-clause-rest : goal.returns-clause-rest
returns-clause-rest g c = λ blocks rest.
    rest_on g.F.Format.layout g.H.Holder.tells (g.H.Holder.view c.args.holder.now) (g.H.Holder.view c.next.new.holder) blocks c.next.ensures.walked rest

use Rattle.std.proofs.lemmas.Result.{IfOk-weaker}
use Rattle.pt_run.proofs.SharedFacts.{closes}
use Rattle.pt_run.proofs.shared.close.Goals as goal

pub returns : goal.returns
returns g c =
    IfOk-weaker c.close.result _ _
    (λ w h. closes g.F.Format.layout c.args.whole.view c.args.space.frames c.args.space.levels w.items c.requires.ready c.requires.all h)
    c.close.ensures

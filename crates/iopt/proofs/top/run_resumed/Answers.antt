use Rattle.std.proofs.Common.{arith}
use Rattle.iopt.proofs.ResumeFacts.{ends_resume, unresumed_as}
use Rattle.iopt.proofs.top.run_resumed.Goals as goal

pub returns-in-Err-resume-clause-unresumed : goal.returns-in-Err-resume-clause-unresumed
returns-in-Err-resume-clause-unresumed g c =
    unresumed_as (g.S.Source.left c.args.source.now) (g.S.Source.left c.read_all.new.source) c.in-Ok.input.items c.in-Err-resume.status
    c.in-Ok.ensures.bytes (let within = c.in-Ok.ensures.within in let same = c.in-Ok.input.ok in omega (arith, within, same)) c.in-Err-resume.ensures.unresumed

pub returns-in-Err-resume-clause-complete : goal.returns-in-Err-resume-clause-complete
returns-in-Err-resume-clause-complete g c = λ can quiet still.
    ends_resume c.scripts_are_not_refused.ensures c.scripts_are_one.ensures (g.S.Source.left c.args.source.now) (g.S.Source.left c.read_all.new.source)
    c.in-Ok.input.items c.in-Err-resume.status can c.in-Ok.ensures.bytes c.in-Err-resume.ensures.unresumed

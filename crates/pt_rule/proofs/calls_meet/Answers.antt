use Rattle.pt_rule.proofs.Laws.{grow_meets, release_meets, steps_meet, unlink_meets}
use Rattle.pt_rule.proofs.calls_meet.Goals as goal

pub returns-clause-steps : goal.returns-clause-steps
returns-clause-steps c = steps_meet

pub returns-clause-unlink : goal.returns-clause-unlink
returns-clause-unlink c = unlink_meets

pub returns-clause-grow : goal.returns-clause-grow
returns-clause-grow c = grow_meets

pub returns-clause-release : goal.returns-clause-release
returns-clause-release c = release_meets

use Rattle.std.proofs.Common.{ℕ, List, subst}
use Rattle.iopt.specs.Runs.{IsRefusedFor}
use Rattle.iopt.proofs.PutFacts.{script_ends}
use Rattle.iopt.proofs.top.run_input.Goals as goal

pub returns-in-Err-answer_to-clause-complete : goal.returns-in-Err-answer_to-clause-complete
returns-in-Err-answer_to-clause-complete g c = λ can quiet still.
    let error = c.in-Err-answer_to.error in
    let refused : IsRefusedFor c.in-Ok.text.items error =
    subst (λ (bytes : List ℕ). IsRefusedFor bytes error) c.deref.ensures.value c.in-Err-answer_to.ensures.refused in
    rw c.script_status.ensures
    (script_ends c.scripts_are_not_refused.ensures (g.S.Source.left c.args.source.now) (g.S.Source.left c.read_all.new.source)
    c.in-Ok.text.items error can c.in-Ok.ensures.bytes refused)

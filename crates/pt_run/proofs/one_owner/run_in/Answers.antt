use Rattle.std.proofs.Common.{ℕ, List, sym, subst}
use Rattle.pt_reply.specs.Built.{machine}
use Rattle.pt_run.specs.Scripted.{EndsOfOne}
use Rattle.pt_run.proofs.RunFacts.{run_of_one}
use Rattle.pt_run.proofs.one_owner.run_in.Goals as goal

pub returns : goal.returns
returns g c =
    let f = g.F.Format.layout in
    let s = c.args.script.now in
    let replies = c.in_ok-words.replies.items in
    let ends = subst (λ (ws : List ℕ). EndsOfOne (machine f s.levels s.frames) s.body ws replies) (sym c.deref.ensures.value) c.in_ok-words.ensures in
    run_of_one s f c.deref.result.now replies c.asks.result.now c.answer_asks.new.replies.items c.requires.name c.asks.ensures ends
    c.in_ok-answer_asks.ensures

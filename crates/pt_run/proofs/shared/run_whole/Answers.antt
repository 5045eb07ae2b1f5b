use Rattle.std.proofs.Common.{ℕ, List, sym, subst, ap, ◌∙◌}
use Rattle.std.specs.Prelude.{IfOk, IsTrue}
use Rattle.pt_model.specs.declared.command.Command.{Command}
use Rattle.pt_model.specs.declared.reply.Reply.{Reply}
use Rattle.pt_model.specs.Layout.{Layout}
use Rattle.pt_script.proofs.LegalLemmas.{legal_script}
use Rattle.pt_laws.specs.Lines.{CommandsRise}
use Rattle.pt_space.specs.Standing.{Standing}
use Rattle.pt_reply.specs.Running.{book_in, machine_in}
use Rattle.pt_reply.specs.Telling.{IsTellable, has_small_blocks}
use Rattle.pt_beside.specs.Running.{IsBodyOf, IsRun}
use Rattle.pt_shared.specs.Parts.{place_of}
use Rattle.pt_run.specs.Scripted.{Closes}
use Rattle.pt_run.specs.Shared.{IsRunFrom}
use Rattle.pt_run.proofs.SharedFacts.{rises, run_from_is, shared_in, small_of, whole_body}
use Rattle.pt_run.proofs.shared.run_whole.Goals as goal

pub run_on-lease-requires-clause-small : goal.run_on-lease-requires-clause-small
run_on-lease-requires-clause-small g c κs within = subst (λ (f : Layout). IsTrue (has_small_blocks f)) c.requires.name (small_of c.args.script.now.format)

-- the lease is of the whole space, and a script's body stands outside forks there
pub run_on-lease-requires-clause-body : goal.run_on-lease-requires-clause-body
run_on-lease-requires-clause-body g c κs within =
    let f = g.F.Format.layout in
    let s = c.args.script.now in
    let p = c.lease.result in
    let was = ap (λ (x : Standing). machine_in f x.view) c.lease.ensures ∙ c.requires.machine in
    let pages = ap (λ (x : Standing). x.view.count) c.lease.ensures ∙ c.requires.all in
    subst (λ (cs : List Command). IsBodyOf (place_of f p) cs) (sym c.commands.ensures) (whole_body f s.frames s.levels p was pages s (legal_script s))

pub returns : goal.returns
returns g c =
    let f = g.F.Format.layout in
    let s = c.args.script.now in
    let p = c.lease.result in
    let was = ap (λ (x : Standing). machine_in f x.view) c.lease.ensures ∙ c.requires.machine in
    let pages = ap (λ (x : Standing). x.view.count) c.lease.ensures ∙ c.requires.all in
    let q = c.run_on-lease.result.0 in
    let body = c.commands.result.now in
    let replies = c.replies.inside.replies.items in
    let words = c.deref.result.now in
    let all = c.answer_asks.new.replies.items in
    let ran = subst (λ (rs : List Reply). IsRun (IsTellable f) (place_of f p) (place_of f q) body rs) (sym c.replies.view_is)
    (subst (λ r. IfOk r (λ (rs : List Reply). IsRun (IsTellable f) (place_of f p) (place_of f q) body rs)) c.in_ok-replies.was c.run_on-lease.ensures.run) in
    let closing = subst (λ (ws : List ℕ). Closes (machine_in f q.view) (book_in q.view) ws) (sym c.deref.ensures.value)
    (subst (λ (x : Standing). Closes (machine_in f x.view) (book_in x.view) c.in_ok-words.words.items) c.pass-whole.ensures c.in_ok-words.ensures) in
    let rise = subst (λ (cs : List Command). CommandsRise cs) (sym c.commands.ensures) (rises 4 s.body (legal_script s).numbered) in
    subst (λ (x : Standing). IsRunFrom s (book_in x.view) all) c.lease.ensures
    (run_from_is s f (book_in p.view) body c.asks.result.now all c.requires.name c.commands.ensures c.asks.ensures
    (shared_in f s.frames s.levels p was pages q body replies rise c.run_on-lease.ensures.stays ran words closing c.asks.result.now all
    c.in_ok-answer_asks.ensures))

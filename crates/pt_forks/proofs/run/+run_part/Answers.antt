use Rattle.std.proofs.Common.{rules, subst, sym, ap, ◌∙◌, ◌++◌, ◌∷◌, [], ◌≡◌, ◌<◌, List, length, take, drop, ◌-◌, ◌+◌, None}
use Rattle.pt_model.specs.declared.reply.Reply.{Reply}
use Rattle.pt_model.specs.declared.reply.ForkAnswer.{ForkAnswer}
use Rattle.pt_model.specs.declared.reply.Answer.TheVariants as answer
use Rattle.pt_model.specs.Cuts.{cut_refusal}
use Rattle.pt_model.specs.Run.{Opened}
use Rattle.pt_script.specs.declared.line.Side.TheVariants.{Left}
use Rattle.pt_forks.specs.Places.{Place, StaysIn, cut_by}
use Rattle.pt_forks.specs.Running.{IsOneBody, HasPassed, HasRun, AreTold}
use Rattle.pt_forks.proofs.Bodies.{found_fork, front_fork}
use Rattle.pt_forks.proofs.Passing.{passed_plain, first_plain, admitted, again_after, passed_refused, passed_admitted, told_more}
use Rattle.pt_forks.proofs.run.+run_part.Goals.{run_fork-in-Forked+in_ok-run_branch+in_ok-run_branch-2, run_fork-in_default}
use Rattle.pt_forks.proofs.run.+run_part.Goals as goal

pub run_first-returns : goal.run_first-returns
run_first-returns g t c = record {
  stays = c.answer.ensures.stays;
  run = passed_plain _ _ c.args.commands.now _ _ _ c.requires.body c.requires.some
      (first_plain c.args.commands.now _ c.requires.body c.requires.some c.in_default.not-Fork) c.in_ok-answer.ensures.answers c.in_ok-answer.ensures.book
      c.in_ok-push.ensures.items;
  told = λ h. subst (AreTold g.H.Owner.told) (sym c.in_ok-push.ensures.items) (told_more g.H.Owner.told _ _ c.in_ok-answer.ensures.told h);
}

pub run_fork-branches-middle-requires : goal.run_fork-branches-middle-requires
run_fork-branches-middle-requires g t c =
    let body = c.requires.body in let front = c.requires.front in
    found_fork body.inside body.room c.args.commands.now front.0 c.args.line c.args.at body.is_body front.1

pub run_fork-run_branch-requires : goal.run_fork-run_branch-requires
run_fork-run_branch-requires g t c κs within =
    let p = g.H.Owner.place c.args.owner.now in
    let front = c.requires.front in
    let f = front_fork c.args.commands.now front.0 c.args.line c.args.at _ _ _ c.requires.body front.1 c.branches-middle.ensures.fork in
    let ok = admitted p.machine p.book c.args.at (sym c.cut_at-answer.ensures.answers ∙ c.in-Forked.is) in
    let here = sym c.cut_at-answer.ensures.stays in (
      search rules,
      (
        search rules,
        (
          subst (λ (q : Place). cut_refusal q.machine.layout q.book c.args.at ≡ None) here ok,
          (
            subst (λ (q : Place). length q.cuts < 16) here f.room,
            subst (λ (q : Place). IsOneBody (take (c.branches-middle.result.0 - 1) (drop 1 c.args.commands.now)) (cut_by q c.args.at ∷ q.cuts)) here
                (f.left_body (cut_by p c.args.at)),
          ),
        ),
      ),
    )

pub run_fork-run_branch-requires-in-Forked : goal.run_fork-run_branch-requires-in-Forked
run_fork-run_branch-requires-in-Forked g t c κs within =
    let p = g.H.Owner.place c.args.owner.now in
    let front = c.requires.front in
    let f = front_fork c.args.commands.now front.0 c.args.line c.args.at _ _ _ c.requires.body front.1 c.branches-middle.ensures.fork in
    let ok = admitted p.machine p.book c.args.at (sym c.cut_at-answer.ensures.answers ∙ c.in-Forked.is) in
    let here = sym c.cut_at-answer.ensures.stays in
    let q = g.H.Owner.place c.run_branch.new.owner in
    let cuts = c.run_branch.ensures.stays.cuts ∙ ap (λ (x : Place). x.cuts) c.cut_at-answer.ensures.stays in (
      search rules,
      (
        search rules,
        (
          again_after _ _ c.args.at Left _ _ _ c.run_branch.ensures.stays (subst (λ (x : Place). cut_refusal x.machine.layout x.book c.args.at ≡ None) here ok)
              c.in_ok-run_branch.ensures.run,
          (
            subst (λ (cs : List Opened). length cs < 16) (sym cuts) f.room,
            subst (λ (cs : List Opened). IsOneBody (take (c.branches-middle.result.1 - (c.branches-middle.result.0 + 1)) (drop (c.branches-middle.result.0 + 1) c.args.commands.now))
                (cut_by q c.args.at ∷ cs)) (sym cuts)
                (f.right_body (cut_by q c.args.at)),
          ),
        ),
      ),
    )

pub run_fork-returns-clause-run : goal.run_fork-returns-clause-run
run_fork-returns-clause-run g t c =
    let p = g.H.Owner.place c.args.owner.now in
    let front = c.requires.front in
    let f = front_fork c.args.commands.now front.0 c.args.line c.args.at _ _ _ c.requires.body front.1 c.branches-middle.ensures.fork in
    let put = c.in_ok-push.ensures.items
    ∙ ap (λ (a : ForkAnswer). c.args.replies.now.items ++ (let r : Reply = record { line = c.args.line; answer = answer.Fork a } in r) ∷ []) c.cut_at-answer.ensures.answers in
    elim c.match-answer.branch [
      | run_fork-in-Forked+in_ok-run_branch+in_ok-run_branch-2 w ↦
          let ok = admitted p.machine p.book c.args.at (sym c.cut_at-answer.ensures.answers ∙ w.in-Forked.is) in
          rw (w.owner-is, w.replies-is)
          (passed_admitted p _ _ c.args.commands.now c.args.line c.args.at _ _ _ _ _ _ f
          (subst (λ (x : Place). StaysIn x (g.H.Owner.place w.run_branch.new.owner)) c.cut_at-answer.ensures.stays w.run_branch.ensures.stays) ok put
          (subst (λ (x : Place). HasRun x (g.H.Owner.place w.run_branch.new.owner) c.args.at Left (take (c.branches-middle.result.0 - 1) (drop 1 c.args.commands.now)) c.push.new.self.items w.run_branch.new.replies.items)
          c.cut_at-answer.ensures.stays w.in_ok-run_branch.ensures.run)
          w.in_ok-run_branch-2.ensures.run)
      | run_fork-in_default w ↦
          rw (w.owner-is, w.replies-is)
          (subst (λ (x : Place). HasPassed p x c.args.commands.now c.args.replies.now.items c.push.new.self.items (c.branches-middle.result.1 + 1)) (sym c.cut_at-answer.ensures.stays)
          (passed_refused p c.args.commands.now c.args.line c.args.at _ _ _ _ f (λ e. w.in_default.not-Forked (c.cut_at-answer.ensures.answers ∙ e)) put))
    ]

pub run_fork-returns-clause-told : goal.run_fork-returns-clause-told
run_fork-returns-clause-told g t c =
    let put : AreTold g.H.Owner.told c.args.replies.now.items → AreTold g.H.Owner.told c.push.new.self.items =
    λ h. subst (AreTold g.H.Owner.told) (sym c.in_ok-push.ensures.items) (told_more g.H.Owner.told _ _ c.cut_at-answer.ensures.told h) in
    elim c.match-answer.branch [
      | run_fork-in-Forked+in_ok-run_branch+in_ok-run_branch-2 w ↦
          rw (w.replies-is) (λ h. w.in_ok-run_branch-2.ensures.told (w.in_ok-run_branch.ensures.told (put h)))
      | run_fork-in_default w ↦ rw (w.replies-is) put
    ]

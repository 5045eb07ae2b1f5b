use Rattle.std.proofs.Common.{rules, refl, subst, sym, ap, ◌∙◌, append_assoc, ◌++◌, ◌∷◌, [], List, length, take, drop, ◌-◌, ◌+◌, ℕ, arith}
use Rattle.std.specs.Prelude.{not, Bool, min}
use Rattle.std.proofs.lemmas.Result.{IfOk-at_ok, IfOk-weaker}
use Rattle.pt_model.specs.declared.command.Command.{Command}
use Rattle.pt_model.specs.declared.reply.Reply.{Reply}
use Rattle.pt_model.specs.declared.reply.ForkAnswer.{ForkAnswer}
use Rattle.pt_model.specs.declared.reply.Answer.TheVariants as answer
use Rattle.pt_model.specs.Run.{fork_answer}
use Rattle.pt_forks.proofs.Bodies.{found_fork, fork_slices}
use Rattle.pt_forks.proofs.Passing.{admitted}
use Rattle.pt_laws.specs.Need.{need}
use Rattle.pt_beside.specs.Places.{Place, StaysIn, HasGathered, IsSplit, is_whole}
use Rattle.pt_beside.specs.Running.{IsBodyIn, IsBodyOf, Ran, HasPassed, HasForked}
use Rattle.pt_beside.proofs.Listing.{take_on, drop_on, take_all, length_drop}
use Rattle.pt_beside.proofs.Passing.{first_call, passed_call, passed_fork, ran_nothing, ran_on, ran_refused, stays_on, whole_stays, left_body, right_body}
use Rattle.pt_beside.proofs.Forking.{parts, left_inside, right_inside, ends_meet, both_stay, ran_forked}
use Rattle.pt_beside.proofs.run.+run_commands.Goals as goal

pub run_branches-join-before-requires-after_bounds :
    goal.run_branches-join-before-requires-after_bounds
run_branches-join-before-requires-after_bounds g t c κs within =
    let p = g.P.Part.place c.args.part in
    let are = parts p _ _ _ c.args.at _ _ _ c.gather-part.ensures c.split-before.ensures in
    let left = subst (λ (b : Bool). IsBodyIn (not b) c.args.left.commands.now) (sym (left_inside p _ _ c.args.at c.requires.sound c.requires.admitted are)) c.requires.left in
    let right = subst (λ (b : Bool). IsBodyIn (not b) c.args.right.commands.now) (sym (right_inside p _ _ c.args.at c.requires.sound c.requires.admitted are)) c.requires.right in (
      (search rules, (search rules, (search rules, (search rules, (search rules, (left, (search rules, search rules, search rules))))))),
      (search rules, (search rules, (search rules, (search rules, (search rules, (right, (search rules, search rules, search rules))))))),
    )

pub run_branches-join-requires : goal.run_branches-join-requires
run_branches-join-requires g t c =
    let p = g.P.Part.place c.args.part in
    let are = parts p _ _ _ c.args.at _ _ _ c.gather-part.ensures c.split-before.ensures in
    ends_meet p _ _ c.args.at c.requires.sound c.requires.admitted are _ _ c.join-before.ensures.first.0 c.join-before.ensures.second.0

pub run_branches-returns-clause-stays : goal.run_branches-returns-clause-stays
run_branches-returns-clause-stays g t c =
    let p = g.P.Part.place c.args.part in
    let are = parts p _ _ _ c.args.at _ _ _ c.gather-part.ensures c.split-before.ensures in
    both_stay p _ _ c.args.at c.requires.sound c.requires.admitted are _ _ c.join-before.ensures.first.0 c.join-before.ensures.second.0 _ c.join.ensures

pub run_branches-returns-clause-run : goal.run_branches-returns-clause-run
run_branches-returns-clause-run g t c =
    let p = g.P.Part.place c.args.part in
    let m = p.machine in
    let sum = ap (λ (n : ℕ). n + c.need_of.result) c.need_of-need.ensures.need ∙ ap (λ (n : ℕ). need m c.args.left.commands.now + n) c.need_of.ensures.need in
    let frames = c.min.ensures ∙ ap (λ (n : ℕ). min n c.from.result) c.need_of-need.ensures.need ∙ ap (λ (n : ℕ). min (need m c.args.left.commands.now) n) c.from.ensures in
    IfOk-weaker c.merge.result _ _
    (λ u h. record {
      gathered = g.P.Part.place c.gather-part.result.0;
      held = c.gather-part.result.1;
      gathers = subst (λ (n : ℕ). HasGathered p (g.P.Part.place c.gather-part.result.0) n c.gather-part.result.1) sum c.gather-part.ensures;
      left_part = g.P.Part.place c.split-before.result.0;
      right_part = g.P.Part.place c.split-before.result.1;
      splits = subst (λ (n : ℕ). IsSplit (g.P.Part.place c.gather-part.result.0) c.args.at n (g.P.Part.place c.split-before.result.0) (g.P.Part.place c.split-before.result.1))
          frames c.split-before.ensures;
      left_end = g.P.Part.place c.join-before.result.0.0;
      right_end = g.P.Part.place c.join-before.result.1.0;
      left_replies = h.one.items;
      right_replies = h.two.items;
      left_ran = IfOk-at_ok _ h.left_is c.join-before.ensures.first.1;
      right_ran = IfOk-at_ok _ h.right_is c.join-before.ensures.second.1;
      left_stays = c.join-before.ensures.first.0;
      right_stays = c.join-before.ensures.second.0;
      joins = c.join.ensures;
      put = h.put;
    }) c.merge.ensures

pub run_first-returns : goal.run_first-returns
run_first-returns g t c =
    let p = g.P.Part.place c.args.part in
    let q = g.P.Part.place c.answer-part.result.0 in
    let said = c.answer-part.ensures in
    let call = first_call (not (is_whole p)) c.args.commands.now c.requires.body c.requires.some c.in_default.not-Fork in
    record {
      stays = said.stays;
      run = IfOk-weaker c.note.result _ _
          (λ n h. passed_call g.P.Part.told p q c.args.commands.now h.answer _ _ n said.sound c.requires.body c.requires.some call
          (IfOk-at_ok _ h.answer_is said.answers) (IfOk-at_ok _ h.answer_is said.told) h.one h.put) c.note.ensures;
    }

pub run_fork-branches-middle-requires : goal.run_fork-branches-middle-requires
run_fork-branches-middle-requires g t c =
    let body = c.requires.body in let front = c.requires.front in
    found_fork (not (is_whole (g.P.Part.place c.args.part))) body.room c.args.commands.now front.0 c.args.line c.args.at body.is_body front.1

pub run_fork-run_branches-joined-requires-clause-left :
    goal.run_fork-run_branches-joined-requires-clause-left
run_fork-run_branches-joined-requires-clause-left g t c κs within =
    let inside = not (is_whole (g.P.Part.place c.args.part)) in
    let body = c.requires.body in let front = c.requires.front in
    let f = fork_slices inside body.room c.args.commands.now front.0 c.args.line c.args.at _ _ body.is_body front.1 c.branches-middle.ensures.fork in
    left_body c.args.commands.now c.args.line c.args.at _ _ inside body.room f body refl

pub run_fork-run_branches-joined-requires-clause-right :
    goal.run_fork-run_branches-joined-requires-clause-right
run_fork-run_branches-joined-requires-clause-right g t c κs within =
    let inside = not (is_whole (g.P.Part.place c.args.part)) in
    let body = c.requires.body in let front = c.requires.front in
    let f = fork_slices inside body.room c.args.commands.now front.0 c.args.line c.args.at _ _ body.is_body front.1 c.branches-middle.ensures.fork in
    right_body c.args.commands.now c.args.line c.args.at _ _ inside body.room f body refl

pub run_fork-returns-in-Ok-ran-clause-run : goal.run_fork-returns-in-Ok-ran-clause-run
run_fork-returns-in-Ok-ran-clause-run g t c =
    let p = g.P.Part.place c.args.part in
    let q = g.P.Part.place c.run_branches-joined.result.0 in
    let inside = not (is_whole p) in
    let body = c.requires.body in let front = c.requires.front in
    let f = fork_slices inside body.room c.args.commands.now front.0 c.args.line c.args.at _ _ body.is_body front.1 c.branches-middle.ensures.fork in
    let left = left_body c.args.commands.now c.args.line c.args.at _ _ inside body.room f body refl in
    let right = right_body c.args.commands.now c.args.line c.args.at _ _ inside body.room f body refl in
    let cut = c.cut_at-part.ensures in
    let ok = admitted p.machine p.book c.args.at (sym cut.answers ∙ c.in-Forked.is) in
    let told = subst (λ (a : ForkAnswer). g.P.Part.told (answer.Fork a)) cut.answers cut.told in
    let ran : HasForked g.P.Part.told (g.P.Part.place c.cut_at-part.result.0) q c.args.at (take (c.branches-middle.result.0 - 1) (drop 1 c.args.commands.now))
    (take (c.branches-middle.result.1 - (c.branches-middle.result.0 + 1)) (drop (c.branches-middle.result.0 + 1) c.args.commands.now)) c.push.new.self.items c.run_branches-joined.new.replies.items =
    IfOk-at_ok _ c.in-Ok-ran.is c.run_branches-joined.ensures.run in
    let h : HasForked g.P.Part.told p q c.args.at (take (c.branches-middle.result.0 - 1) (drop 1 c.args.commands.now))
    (take (c.branches-middle.result.1 - (c.branches-middle.result.0 + 1)) (drop (c.branches-middle.result.0 + 1) c.args.commands.now)) c.push.new.self.items c.run_branches-joined.new.replies.items =
    subst (λ (x : Place). HasForked g.P.Part.told x q c.args.at (take (c.branches-middle.result.0 - 1) (drop 1 c.args.commands.now))
    (take (c.branches-middle.result.1 - (c.branches-middle.result.0 + 1)) (drop (c.branches-middle.result.0 + 1) c.args.commands.now)) c.push.new.self.items c.run_branches-joined.new.replies.items)
    cut.same ran in
    let put = h.put
    ∙ ap (λ (rs : List Reply). rs ++ (h.left_replies ++ h.right_replies)) (c.in-Ok.ensures.items
    ∙ ap (λ (a : ForkAnswer). c.args.replies.now.items ++ (let r : Reply = record { line = c.args.line; answer = answer.Fork a } in r) ∷ []) cut.answers)
    ∙ append_assoc c.args.replies.now.items (record { line = c.args.line; answer = answer.Fork (fork_answer p.machine p.book c.args.at) } ∷ []) (h.left_replies ++ h.right_replies) in
    passed_fork g.P.Part.told p q c.args.commands.now c.args.line c.args.at _ _ _ _ _ body f put
    (ran_forked g.P.Part.told p q c.args.line c.args.at f.middle f.last _ _ _ _ cut.sound ok told left right h)

pub run_fork-returns : goal.run_fork-returns
run_fork-returns g t c =
    let p = g.P.Part.place c.args.part in
    let inside = not (is_whole p) in
    let body = c.requires.body in let front = c.requires.front in
    let f = fork_slices inside body.room c.args.commands.now front.0 c.args.line c.args.at _ _ body.is_body front.1 c.branches-middle.ensures.fork in
    let left = left_body c.args.commands.now c.args.line c.args.at _ _ inside body.room f body refl in
    let right = right_body c.args.commands.now c.args.line c.args.at _ _ inside body.room f body refl in
    let cut = c.cut_at-part.ensures in
    let told = subst (λ (a : ForkAnswer). g.P.Part.told (answer.Fork a)) cut.answers cut.told in
    let put = c.in-Ok.ensures.items
    ∙ ap (λ (a : ForkAnswer). c.args.replies.now.items ++ (let r : Reply = record { line = c.args.line; answer = answer.Fork a } in r) ∷ []) cut.answers in
    record {
      stays = subst (λ (x : Place). StaysIn p x) (sym cut.same) (record { space = refl; machine = refl; first = refl; count = refl });
      run = subst (λ (x : Place). HasPassed g.P.Part.told p x c.args.commands.now c.args.replies.now.items c.push.new.self.items (c.branches-middle.result.1 + 1)) (sym cut.same)
          (passed_fork g.P.Part.told p p c.args.commands.now c.args.line c.args.at _ _ _ _ _ body f put
          (ran_refused g.P.Part.told p c.args.line c.args.at f.middle f.last _ _ cut.sound (λ e. c.in_default-answer.not-Forked (cut.answers ∙ e)) told left right));
    }

pub run_commands-loop-place-init : goal.run_commands-loop-place-init
run_commands-loop-place-init g t c =
    let p = g.P.Part.place c.args.part in (
      search rules,
      record { space = refl; machine = refl; first = refl; count = refl },
      c.requires.body,
      subst (λ (rs : List Reply). Ran g.P.Part.told p p [] rs) (sym c.new-replies.ensures.items) (ran_nothing g.P.Part.told p),
    )

pub run_commands-loop-place-preserved : goal.run_commands-loop-place-preserved
run_commands-loop-place-preserved g t c =
    let p = g.P.Part.place c.args.part in
    let q = g.P.Part.place c.loop-place.part in
    let r = g.P.Part.place c.run_first-behind.result.0 in
    let cs = c.args.commands.now in
    let inv = c.loop-place.invariant in
    let stays = c.run_first-behind.ensures.stays in
    let long = length_drop cs c.loop-place.place in
    let sliced : HasPassed g.P.Part.told q r (take (length cs - c.loop-place.place) (drop c.loop-place.place cs)) c.loop-place.replies.items c.run_first-behind.new.replies.items c.in-Ok.count =
    IfOk-at_ok _ c.in-Ok.is c.run_first-behind.ensures.run in
    let passed : HasPassed g.P.Part.told q r (drop c.loop-place.place cs) c.loop-place.replies.items c.run_first-behind.new.replies.items c.in-Ok.count =
    subst (λ (ds : List Command). HasPassed g.P.Part.told q r ds c.loop-place.replies.items c.run_first-behind.new.replies.items c.in-Ok.count)
    (take_all (drop c.loop-place.place cs) (length cs - c.loop-place.place) (omega arith)) sliced in
    let within = passed.within in let some = c.loop-place-test.true in
    let rest = subst (λ (ds : List Command). IsBodyOf q ds) (drop_on cs c.loop-place.place c.in-Ok.count) passed.rest in (
      omega arith,
      stays_on p q r inv.1 stays,
      subst (λ (b : Bool). IsBodyIn (not b) (drop (c.loop-place.place + c.in-Ok.count) cs)) (sym (whole_stays q r stays)) rest,
      subst (λ (rs : List Reply). Ran g.P.Part.told p r (take (c.loop-place.place + c.in-Ok.count) cs) rs) (sym passed.put)
          (subst (λ (ds : List Command). Ran g.P.Part.told p r ds (c.loop-place.replies.items ++ passed.added)) (take_on cs c.loop-place.place c.in-Ok.count)
          (ran_on g.P.Part.told p q r (take c.loop-place.place cs) (take c.in-Ok.count (drop c.loop-place.place cs)) c.loop-place.replies.items passed.added inv.1 inv.3 passed.ran)),
    )

use Rattle.std.proofs.Common.{rules, ◌∙◌, Result, Ok, Err, IfOk}
use Rattle.pt_rule.specs.Opening.{IsNew}
use Rattle.pt_space.proofs.Saved.{saved_new, saved_is_new}
use Rattle.pt_space.proofs.space.Space.make.Goals as goal

on_ok : {A E : Type 0} {P Q : A → Type 0} → (r : Result A E) → IfOk r P → ((v : A) → P v → Q v) → IfOk r Q
on_ok (Ok v) h f = f v h
on_ok (Err e) h f = tt

pub begin-requires : goal.begin-requires
begin-requires g c =
    let law = g.met.F.Format in
    let f = g.F.Format.layout in
    let new : IsNew f c.args.frames c.args.levels c.args.hold c.in_ok-words.words.items = search rules in record {
      lawful = saved_new law.lawful_layout law.words_differ law.steps_agree c.args.hold c.requires.few c.requires.hold c.requires.low c.requires.high new;
    }

pub returns-clause-view : goal.returns-clause-view
returns-clause-view g c =
    let law = g.met.F.Format in
    let f = g.F.Format.layout in
    let new : IsNew f c.args.frames c.args.levels c.args.hold c.in_ok-words.words.items = search rules in
    on_ok c.begin.result c.begin.ensures.view
    (λ r e. e ∙ saved_is_new law.lawful_layout law.words_differ law.steps_agree c.args.hold c.requires.few c.requires.hold c.requires.low c.requires.high new)

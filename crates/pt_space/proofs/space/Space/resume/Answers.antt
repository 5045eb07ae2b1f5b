use Rattle.std.proofs.Common.{ℕ, List, [], ◌∷◌, sym, subst, Result, Ok, Err, IfOk}
use Rattle.pt_view.specs.declared.view.View.{View}
use Rattle.pt_rule.specs.Lawful.{Lawful}
use Rattle.pt_view.specs.Views.{Rests}
use Rattle.pt_space.specs.Saved.{SavedWords}
use Rattle.pt_space.proofs.Saved.{saved_sound, saved_rests}
use Rattle.pt_space.proofs.space.Space.resume.Goals as goal

on_ok : {A E : Type 0} {P Q : A → Type 0} → (r : Result A E) → IfOk r P → ((v : A) → P v → Q v) → IfOk r Q
on_ok (Ok v) h f = f v h
on_ok (Err e) h f = tt

pub begin-requires : goal.begin-requires
begin-requires g c =
    let law = g.met.F.Format in
    let f = g.F.Format.layout in record {
      lawful = saved_sound law.lawful_layout law.words_differ law.steps_agree c.sound.invariant;
    }

pub returns-clause-rest : goal.returns-clause-rest
returns-clause-rest g c =
    let law = g.met.F.Format in
    let f = g.F.Format.layout in
    on_ok c.begin.result c.begin.ensures.view
    (λ r e. subst (Rests f) (sym e) (saved_rests law.lawful_layout law.words_differ law.steps_agree c.sound.invariant))

pub returns-clause-lawful : goal.returns-clause-lawful
returns-clause-lawful g c =
    let law = g.met.F.Format in
    let f = g.F.Format.layout in
    let n : ℕ = c.sound.inside.frames in
    let l : ℕ = c.sound.inside.levels in
    let ws : List ℕ = c.sound.inside.words.items in
    let all = saved_sound law.lawful_layout law.words_differ law.steps_agree c.sound.invariant in
    on_ok c.begin.result c.begin.ensures.view
    (λ r e. subst (λ (z : SavedWords). Lawful f z.frames z.levels z.words (r.1.view ∷ [])) c.sound.view_is
    (subst (λ (v : View). Lawful f n l ws (v ∷ [])) (sym e) all))

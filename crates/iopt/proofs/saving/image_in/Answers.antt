use Rattle.std.proofs.Common.{List, ℕ, sym, subst}
use Rattle.std.specs.Prelude.{IfOk}
use Rattle.pt_run.specs.Scripted.{IsLastOfOne}
use Rattle.iopt.proofs.SaveFacts.{saved_ok}
use Rattle.iopt.proofs.saving.image_in.Goals as goal

pub returns : goal.returns
returns g c =
    let s = c.args.script.now in
    let law = g.met.F.Format in
    let last = subst (λ (ws : List ℕ). IsLastOfOne s ws) (sym c.deref.ensures.value) c.in_ok-words.ensures in
    saved_ok s g.F.Format.layout c.requires.name c.number_of-number.result c.deref.result.now last (λ v. v.items) c.image_of.result
    c.resting_words_make_a_good_image.ensures.good c.resting_words_make_a_good_image.ensures.book law.lawful_layout law.words_differ law.steps_agree
    c.number_of-number.ensures.number c.requires.low c.requires.high c.requires.few c.requires.hold c.image_of.ensures.bytes c.image_of.ensures.fields
    c.image_of.ensures.words

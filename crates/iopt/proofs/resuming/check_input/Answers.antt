use Rattle.std.proofs.Common.{List, ℕ, take, drop, sym, subst, ap, ◌∙◌}
use Rattle.pt_image.specs.Books.{SaysImageBook}
use Rattle.pt_image.specs.Faults.{IsGoodImage, IsRefusal}
use Rattle.pt_script.specs.Text.{IsErrorOf}
use Rattle.pt_space.specs.Saved.{IsSound, SavedWords}
use Rattle.pt_run.specs.Shared.{saved_book}
use Rattle.iopt.specs.Resumed.{IsUnresumedFor, image_in}
use Rattle.iopt.specs.declared.status.Status.{Status}
use Rattle.iopt.proofs.ResumeFacts.{begins_well, behind_is, image_refused, resumed_book, script_refused}
use Rattle.iopt.proofs.resuming.check_input.Goals as goal

pub returns-in-Err-clause-unresumed : goal.returns-in-Err-clause-unresumed
returns-in-Err-clause-unresumed g c =
    let f = g.F.Format.layout in
    let h = c.args.header.now in
    let input = c.args.input.items in
    let bad = subst (λ (xs : List ℕ). IsRefusal f h.frames h.levels (take h.length xs) c.in-Err.refused) c.deref.ensures.value c.in-Err.ensures.refused in
    subst (λ (s : Status). IsUnresumedFor input s) (sym c.check_status.ensures)
    (image_refused f input h c.requires.begins c.requires.format c.in-Err.refused bad)

pub returns-in-Err-parse-clause-unresumed : goal.returns-in-Err-parse-clause-unresumed
returns-in-Err-parse-clause-unresumed g c =
    let f = g.F.Format.layout in
    let h = c.args.header.now in
    let input = c.args.input.items in
    let good = subst (λ (xs : List ℕ). IsGoodImage f h.frames h.levels (take h.length xs)) c.deref.ensures.value c.in-Ok.ensures.good in
    let well = begins_well f input h c.requires.begins c.requires.format good in
    let text = behind_is h.length c.deref-2.result.now ∙ ap (λ (xs : List ℕ). drop h.length xs) c.deref-2.ensures.value in
    let bad = subst (λ (xs : List ℕ). IsErrorOf xs c.in-Err-parse.error) text c.in-Err-parse.ensures.bad in
    subst (λ (s : Status). IsUnresumedFor input s) (sym c.script_status.ensures) (script_refused input h well c.in-Err-parse.error bad)

pub returns-in-Some-clause-unresumed : goal.returns-in-Some-clause-unresumed
returns-in-Some-clause-unresumed g c =
    let f = g.F.Format.layout in
    let h = c.args.header.now in
    let input = c.args.input.items in
    let good = subst (λ (xs : List ℕ). IsGoodImage f h.frames h.levels (take h.length xs)) c.deref.ensures.value c.in-Ok.ensures.good in
    let well = begins_well f input h c.requires.begins c.requires.format good in
    let text = behind_is h.length c.deref-2.result.now ∙ ap (λ (xs : List ℕ). drop h.length xs) c.deref-2.ensures.value in
    (h, well, (c.in-Ok-parse.script, sym text ∙ c.in-Ok-parse.ensures.script, c.in-Some.ensures.first))

pub returns-clause-checked : goal.returns-clause-checked
returns-clause-checked g c =
    let f = g.F.Format.layout in
    let law = g.met.F.Format in
    let h = c.args.header.now in
    let input = c.args.input.items in
    let saved = c.in-Ok.sound in
    let good = subst (λ (xs : List ℕ). IsGoodImage f h.frames h.levels (take h.length xs)) c.deref.ensures.value c.in-Ok.ensures.good in
    let says = subst (λ (xs : List ℕ). SaysImageBook f h.frames h.levels (take h.length xs) saved.words) c.deref.ensures.value c.in-Ok.ensures.book in
    let sound = subst (λ (z : SavedWords). IsSound f z.frames z.levels z.words) c.sound.view_is c.sound.invariant in
    let text = behind_is h.length c.deref-2.result.now ∙ ap (λ (xs : List ℕ). drop h.length xs) c.deref-2.ensures.value in
    record {
      header = h;
      well = begins_well f input h c.requires.begins c.requires.format good;
      is_script = sym text ∙ c.in-Ok-parse.ensures.script;
      same = c.in-None.ensures.none;
      book_is = resumed_book f law.lawful_layout law.words_differ law.steps_agree saved sound h (image_in h input) c.in-Ok-parse.script
          c.in-Ok.ensures.sound.0 c.in-Ok.ensures.sound.1 says c.requires.format c.in-None.ensures.none;
    }

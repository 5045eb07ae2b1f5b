-- The image of the words that a script leaves.
use Rattle.std.proofs.Common.{◌≡◌, ℕ, ◌+◌, ◌^◌, ◌<◌, ◌≤◌, List, ◌∷◌, [], length, Some, ap, sym, subst, ◌∙◌, arith}
use Rattle.std.specs.Prelude.{IfOk, Result, Ok, Err}
use Rattle.pt_model.specs.Book.{Book}
use Rattle.pt_model.specs.Layout.{Layout}
use Rattle.pt_model.specs.Words.{frame_limit, word_count}
use Rattle.pt_format.specs.Laws.{IsLayout, WordsDiffer}
use Rattle.pt_format.specs.Manual.{StepsAgree}
use Rattle.pt_names.specs.Names.{layout_of}
use Rattle.pt_script.specs.declared.whole.Script.{Script}
use Rattle.pt_image.specs.Books.{IsImageBook, RestingBookIsImages, RestingImageIsGood, RestsAlone}
use Rattle.pt_image.specs.Bytes.{image_bytes, image_length}
use Rattle.pt_image.specs.Headers.{HasFields, ReadsBack, name_at}
use Rattle.pt_image.specs.Visits.{HasImage}
use Rattle.pt_image.proofs.SavedBytes.{image_long}
use Rattle.pt_run.specs.Scripted.{IsLastOfOne}
use Rattle.iopt.specs.Runs.{IsSaved}

module _ (s : Script) (f : Layout) (name : layout_of s.format ≡ f) (number : ℕ) (words image : List ℕ) (last : IsLastOfOne s words) where
  abbrev g : Layout
  g = layout_of s.format

  rests : RestsAlone g s.frames s.levels words last.closed.view last.closed.blocks
  rests =
      subst (λ (l : ℕ). RestsAlone g s.frames l words last.closed.view last.closed.blocks) last.levels
      (record { lawful = last.closed.lawful; whole = last.closed.whole; rest = last.closed.rest })

  long : length words ≡ word_count g s.frames
  long = last.closed.lawful.sizes.words_are

  pub saved : RestingImageIsGood → RestingBookIsImages → IsLayout f → WordsDiffer f → StepsAgree f → name_at number ≡ Some s.format →
      f.start ≤ s.levels → s.levels ≤ f.levels → s.frames ≤ frame_limit f → s.hold < s.frames →
      image ≡ image_bytes number s.levels s.frames words → ReadsBack number s.levels s.frames image →
      ((h : Layout) → length words ≡ word_count h s.frames → HasImage h s.frames image words) → IsSaved s image
  saved good_law book_law good differ agree known low high few hold bytes fields has =
      let is_good = subst IsLayout (sym name) good in
      let differs = subst WordsDiffer (sym name) differ in
      let agrees = subst StepsAgree (sym name) agree in
      let has_image = has g long in
      let whole : image_length g s.frames ≡ length image = sym (ap length bytes ∙ image_long g number s.levels s.frames words long) in
      record {
        number = number;
        number_is = known;
        fields = subst (λ (k : ℕ). HasFields image (record { number = number; levels = s.levels; frames = s.frames; length = k })) whole
            (fields s.format known
            (record { low = subst (λ (h : Layout). h.start ≤ s.levels) (sym name) low; high = subst (λ (h : Layout). s.levels ≤ h.levels) (sym name) high })
            (record { some = omega (arith, hold); few = subst (λ (h : Layout). s.frames ≤ frame_limit h) (sym name) few }));
        good = good_law g is_good differs s.frames s.levels image words last.closed.view last.closed.blocks rests has_image;
        book = subst (λ (b : Book). IsImageBook g s.frames s.levels image b) last.book_is
            (book_law g is_good differs agrees s.frames s.levels image words has_image last.closed.view last.closed.blocks rests);
      }

-- the same of an answer
pub saved_ok : (s : Script) (f : Layout) (name : layout_of s.format ≡ f) (number : ℕ) (words : List ℕ) (last : IsLastOfOne s words)
    {T E : Type 0} (items : T → List ℕ) (result : Result T E) → RestingImageIsGood → RestingBookIsImages → IsLayout f → WordsDiffer f → StepsAgree f →
    name_at number ≡ Some s.format → f.start ≤ s.levels → s.levels ≤ f.levels → s.frames ≤ frame_limit f → s.hold < s.frames →
    IfOk result (λ image. items image ≡ image_bytes number s.levels s.frames words) →
    IfOk result (λ image. ReadsBack number s.levels s.frames (items image)) →
    IfOk result (λ image. (h : Layout) → length words ≡ word_count h s.frames → HasImage h s.frames (items image) words) →
    IfOk result (λ image. IsSaved s (items image))
saved_ok s f name number words last items (Err e) a b c d g known low high few hold bytes fields has = tt
saved_ok s f name number words last items (Ok v) a b c d g known low high few hold bytes fields has =
    saved s f name number words (items v) last a b c d g known low high few hold bytes fields has

-- An input that can be resumed is: none of the reasons against it holds.
use Rattle.std.proofs.Common.{◌≡◌, ℕ, ◌+◌, ◌*◌, ◌^◌, ◌<◌, ◌≤◌, List, [], ◌∷◌, ◌++◌, length, take, Option, None, Some, refl, ap, sym, subst, ◌∙◌, inl, inr, append_assoc, drop, ◌-◌, length-drop, length-take, arith}
use Rattle.std.proofs.lemmas.List.{append-nil}
use Rattle.pt_model.specs.declared.command.Name.{Name}
use Rattle.pt_model.specs.declared.command.Name.TheVariants.{AmdV1}
use Rattle.pt_model.specs.Layout.{Layout}
use Rattle.pt_names.specs.Names.{layout_of}
use Rattle.pt_script.specs.declared.whole.Script.{Script}
use Rattle.pt_script.specs.Scripts.{text_in}
use Rattle.pt_image.specs.Bytes.{image_length, number_at}
use Rattle.pt_image.specs.Faults.{AreGood, IsGoodEntry, IsGoodImage, IsRefusedFor}
use Rattle.pt_image.specs.Headers.{AreFrames, AreLevels, HasFields, HasHeaderFault, IsWrongAt, name_at, no_mark, no_format, no_levels, no_frames}
use Rattle.pt_image.specs.Order.{Visit}
use Rattle.pt_image.specs.declared.fault.ImageFault.{ImageFault}
use Rattle.pt_image.specs.declared.fault.ImageFault.TheVariants as fault
use Rattle.pt_image.specs.declared.header.Header.{Header}
use Rattle.pt_stream.specs.Bytes.{ConsumesAll}
use Rattle.pt_image.specs.Checks.{IsHeaderOf}
use Rattle.pt_image.specs.Faults.{IsRefusal}
use Rattle.pt_image.specs.declared.fault.CheckRefused.{CheckRefused}
use Rattle.pt_image.specs.declared.fault.CheckRefused.TheVariants as refused
use Rattle.pt_model.specs.Words.{frame_limit}
use Rattle.pt_script.specs.declared.error.ScriptError.{ScriptError}
use Rattle.pt_script.specs.declared.error.ScriptError.TheVariants as script
use Rattle.iopt.specs.Runs.{ScriptsAreNotRefused, ScriptsAreOne}
use Rattle.pt_script.specs.Text.{IsErrorOf}
use Rattle.pt_model.specs.Layout.{input_pages}
use Rattle.pt_format.specs.Laws.{IsLayout, WordsDiffer}
use Rattle.pt_format.specs.Manual.{StepsAgree}
use Rattle.pt_image.specs.Books.{IsImageBook, RestsAlone, SaysImageBook}
use Rattle.pt_space.specs.Saved.{IsSound, SavedWords, saved_view}
use Rattle.pt_space.proofs.Saved.{saved_rests, saved_sound}
use Rattle.pt_reply.specs.Running.{blocks_of}
use Rattle.pt_reply.proofs.RestBlocks.{ready_at}
use Rattle.pt_run.specs.Shared.{saved_book}
use Rattle.std.proofs.Math.Seq.{take-length}
use Rattle.iopt.specs.Resumed.{resume_limit, IsOfFormat, check_status, BeginsWell, BeginsWith, DiffersAt, HasHeaderOf, IsUnresumedFor, MayResume, image_in, script_in, other_format, other_frames, some_hold}
use Rattle.iopt.specs.Top.{CanResume, IsDoneWithMemory, UnresumedAs, script_status}
use Rattle.iopt.specs.declared.status.Status.{Status}
use Rattle.iopt.specs.declared.status.Status.TheVariants as status

-- An input has one header.

abbrev name_or : Option Name → Name
name_or None = AmdV1
name_or (Some name) = name

one_name : (image : List ℕ) (h k : Header) (a : HasFields image h) (b : HasFields image k) → b.name ≡ a.name
one_name image h k a b = ap name_or (sym b.name_is ∙ ap name_at (b.number_is ∙ sym a.number_is) ∙ a.name_is)

one_header : (image : List ℕ) (h k : Header) → HasFields image h → HasFields image k → k ≡ h
one_header image h k a b =
    let frames = b.frames_is ∙ sym a.frames_is in
    let lengths : k.length ≡ h.length = b.length_is ∙ (λ i. image_length (layout_of (one_name image h k a b i)) (frames i)) ∙ sym a.length_is in
    λ i. record { number = (b.number_is ∙ sym a.number_is) i; levels = (b.levels_is ∙ sym a.levels_is) i; frames = frames i; length = lengths i }

-- A header whose fields are right has no fault.

none_known : (name : Name) → Some name ≡ None → ⊥
none_known name e = cc

module _ (image : List ℕ) (h : Header) (a : HasFields image h) where
  name_known : (name : Name) → name_at (number_at 8 1 image) ≡ Some name → a.name ≡ name
  name_known name e = ap name_or (sym a.name_is ∙ ap name_at a.number_is ∙ e)

  not_wrong : (offset : ℕ) → IsWrongAt image offset → ⊥
  not_wrong _ (no_mark bad) = bad a.marked
  not_wrong _ (no_format marked none) = none_known a.name (sym a.name_is ∙ ap name_at a.number_is ∙ none)
  not_wrong _ (no_levels marked name is bad) =
      bad (subst (λ (n : Name). AreLevels (layout_of n) (number_at 9 1 image)) (name_known name is)
      (subst (λ (l : ℕ). AreLevels (layout_of a.name) l) a.levels_is a.levels))
  not_wrong _ (no_frames marked name is levels bad) =
      bad (subst (λ (n : Name). AreFrames (layout_of n) (number_at 10 4 image)) (name_known name is)
      (subst (λ (k : ℕ). AreFrames (layout_of a.name) k) a.frames_is a.frames))

  pub no_header_fault : h.length ≤ length image → (x : ImageFault) → HasHeaderFault image x → ⊥
  no_header_fault whole (fault.Truncated have want) (is, inl short) = let e = a.length_is in let f = short.1 in omega (arith, e, f, whole)
  no_header_fault whole (fault.Truncated have want) (is, inr short) =
      let e = ap (λ (k : Header). k.length) (one_header image h short.0 a short.1) in let f = short.4 in omega (arith, e, f, whole)
  no_header_fault whole (fault.Header offset) bad = not_wrong offset bad.1
  no_header_fault whole fault.Root bad = bad
  no_header_fault whole (fault.Entry level base index e) bad = bad
  no_header_fault whole (fault.Stray frame index) bad = bad

-- A good image isn't refused.

module _ (f : Layout) (n l : ℕ) (image : List ℕ) where
  good_at : (before done rest : List Visit) (v : Visit) → AreGood f n l image before (done ++ v ∷ rest) → IsGoodEntry f n l image (before ++ done) v
  good_at before [] rest v good = subst (λ (vs : List Visit). IsGoodEntry f n l image vs v) (sym (append-nil before)) good.0
  good_at before (x ∷ done) rest v good =
      subst (λ (vs : List Visit). IsGoodEntry f n l image vs v) (append_assoc before (x ∷ []) done) (good_at (before ++ x ∷ []) done rest v good.1)

  not_refused : IsGoodImage f n l image → (x : ImageFault) → IsRefusedFor f n l image x → ⊥
  not_refused good (fault.Truncated have want) bad = bad
  not_refused good (fault.Header offset) bad = bad
  not_refused good fault.Root bad = bad good.root
  not_refused good (fault.Entry level base index e) bad =
      let first = bad.1.1 in
      good_at [] first.done first.rest _ (subst (λ (vs : List Visit). AreGood f n l image [] vs) first.list_is good.entries) e first.bad
  not_refused good (fault.Stray frame index) bad = good.no_stray frame index bad.2.here

-- A script with the image's lines doesn't differ.

not_other : (h : Header) (s : Script) (line : ℕ) → HasHeaderOf h s → DiffersAt h s line → ⊥
not_other h s _ same (other_format bad) = bad same.format
not_other h s _ same (other_frames format bad) = bad same.frames
not_other h s _ same (some_hold format frames bad) = bad same.hold

module _ (law : ScriptsAreNotRefused) (one : ScriptsAreOne) (input : List ℕ) (may : MayResume input) where
  same : (k : Header) → HasFields input k → k ≡ may.header
  same k fields = one_header input may.header k may.well.begins.fields fields

  no_image_fault : (x : ImageFault) (k : Header) (begins : BeginsWith input k) →
      IsRefusedFor (layout_of begins.fields.name) k.frames k.levels (image_in k input) x → ⊥
  no_image_fault x k begins bad =
      let e = same k begins.fields in
      let named = subst (λ (name : Name). IsRefusedFor (layout_of name) k.frames k.levels (image_in k input) x)
      (one_name input may.header k may.well.begins.fields begins.fields) bad in
      not_refused (layout_of may.well.begins.fields.name) may.header.frames may.header.levels (image_in may.header input) may.well.good x
      (subst (λ (j : Header). IsRefusedFor (layout_of may.well.begins.fields.name) j.frames j.levels (image_in j input) x) e named)

  pub no_refusal : (s : Status) → IsUnresumedFor input s → IsDoneWithMemory s
  no_refusal (status.Image x) (inl bad) = absurd (no_header_fault input may.header may.well.begins.fields may.well.begins.whole x bad)
  no_refusal (status.Image x) (inr bad) = absurd (no_image_fault x bad.0 bad.1 bad.2)
  no_refusal status.TooLong bad =
      let few = may.well.begins.few in
      let more = subst (λ (j : Header). 2 ^ 20 < length (script_in j input)) (same bad.0 bad.1) bad.3 in
      absurd (omega (arith, few, more))
  no_refusal (status.Refused line reason) bad =
      absurd (law (script_in bad.0 input) line reason
      (may.script, ap (λ (j : Header). script_in j input) (same bad.0 bad.1.begins.fields) ∙ may.is_script) bad.2)
  no_refusal (status.Differs line) bad =
      let e = same bad.0 bad.1.begins.fields in
      let t = one bad.2.0 may.script (sym bad.2.1 ∙ ap (λ (j : Header). script_in j input) e ∙ may.is_script) in
      absurd (not_other may.header may.script line may.same
      (subst (λ (s : Script). DiffersAt may.header s line) t (subst (λ (j : Header). DiffersAt j bad.2.0 line) e bad.2.2)))
  no_refusal status.Memory bad = inr refl
  no_refusal status.Done bad = absurd bad
  no_refusal status.Usage bad = absurd bad
  no_refusal status.ReadFault bad = absurd bad
  no_refusal status.WriteFault bad = absurd bad

-- What the parts of a resumed run leave.

-- the rest of a list, as a slice of it has it
pub behind_is : (at : ℕ) (xs : List ℕ) → take (length xs - at) (drop at xs) ≡ drop at xs
behind_is at xs = ap (λ (k : ℕ). take k (drop at xs)) (sym (length-drop at xs)) ∙ take-length (drop at xs)

-- the book of the words that the check answers is the image's, in the numbers of a script with its header
module _ (f : Layout) (good : IsLayout f) (differ : WordsDiffer f) (agree : StepsAgree f) (saved : SavedWords) (sound : IsSound f saved.frames saved.levels saved.words) where
  saved_whole : (saved_view f saved.frames saved.levels 0 saved.words).count ≡ input_pages f
  unfolding saved_view
  saved_whole = refl

  rests_alone : RestsAlone f saved.frames saved.levels saved.words (saved_view f saved.frames saved.levels 0 saved.words)
      (blocks_of (saved_view f saved.frames saved.levels 0 saved.words).pieces)
  rests_alone = record {
    lawful = saved_sound good differ agree sound;
    whole = saved_whole;
    rest = ready_at f (saved_view f saved.frames saved.levels 0 saved.words) (saved_rests good differ agree sound).1;
  }

  pub resumed_book : (h : Header) (image : List ℕ) (script : Script) → saved.frames ≡ h.frames → saved.levels ≡ h.levels →
      SaysImageBook f h.frames h.levels image saved.words → IsOfFormat f h → HasHeaderOf h script →
      IsImageBook (layout_of script.format) script.frames script.levels image (saved_book f saved)
  resumed_book h image script frames levels says of same =
      let book = saved_book f saved in
      let mine = subst (λ (n : ℕ). SaysImageBook f n saved.levels image saved.words) (sym frames)
      (subst (λ (l : ℕ). SaysImageBook f h.frames l image saved.words) (sym levels) says) in
      let is = mine (saved_view f saved.frames saved.levels 0 saved.words) (blocks_of (saved_view f saved.frames saved.levels 0 saved.words).pieces) rests_alone in
      let framed = subst (λ (n : ℕ). IsImageBook f n saved.levels image book) (frames ∙ sym same.frames) is in
      let leveled = subst (λ (l : ℕ). IsImageBook f script.frames l image book) (levels ∙ sym same.format.levels) framed in
      subst (λ (g : Layout). IsImageBook g script.frames script.levels image book) (sym (of script.format same.format.format)) leveled

-- the header of an input is that of the image that it begins with
pub header_of : (f : Layout) (input : List ℕ) (h : Header) → BeginsWith input h → IsOfFormat f h → IsHeaderOf f h (image_in h input)
header_of f input h begins of =
    let a = begins.fields in
    let e = of a.name a.name_is in
    let t = length-take h.length input in
    let w = begins.whole in
    let whole : length (image_in h input) ≡ h.length = omega (arith, t, w) in
    record {
      some = a.frames.some;
      few = subst (λ (g : Layout). h.frames ≤ frame_limit g) e a.frames.few;
      low = subst (λ (g : Layout). g.start ≤ h.levels) e a.levels.low;
      high = subst (λ (g : Layout). h.levels ≤ g.levels) e a.levels.high;
      long = whole ∙ a.length_is ∙ ap (λ (g : Layout). image_length g h.frames) e;
    }

module _ (f : Layout) (input : List ℕ) (h : Header) (begins : BeginsWith input h) (of : IsOfFormat f h) where
  -- an image that is refused isn't resumed
  pub image_refused : (r : CheckRefused) → IsRefusal f h.frames h.levels (image_in h input) r → IsUnresumedFor input (check_status r)
  image_refused (refused.Fault x) bad =
      inr (h, begins, subst (λ (g : Layout). IsRefusedFor g h.frames h.levels (image_in h input) x) (sym (of begins.fields.name begins.fields.name_is)) bad)
  image_refused refused.Memory bad = tt

  pub begins_well : IsGoodImage f h.frames h.levels (image_in h input) → BeginsWell input h
  begins_well good = record {
    begins = begins;
    good = subst (λ (g : Layout). IsGoodImage g h.frames h.levels (image_in h input)) (sym (of begins.fields.name begins.fields.name_is)) good;
  }

-- a script that is refused isn't resumed
pub script_refused : (input : List ℕ) (h : Header) → BeginsWell input h → (e : ScriptError) → IsErrorOf (script_in h input) e → IsUnresumedFor input (script_status e)
script_refused input h well (script.Bad line reason) bad = (h, well, bad)
script_refused input h well script.Memory bad = tt

-- An input that was read whole, and isn't resumed.

pub unresumed_as : (left left' : Option (List ℕ)) (input : List ℕ) (s : Status) → ConsumesAll left left' input → length input ≤ resume_limit →
    IsUnresumedFor input s → UnresumedAs left left' s
unresumed_as None left' input (status.Refused line reason) all within bad = tt
unresumed_as None left' input (status.Image x) all within bad = tt
unresumed_as None left' input (status.Differs line) all within bad = tt
unresumed_as None left' input status.Done all within bad = tt
unresumed_as None left' input status.Usage all within bad = tt
unresumed_as None left' input status.TooLong all within bad = tt
unresumed_as None left' input status.ReadFault all within bad = tt
unresumed_as None left' input status.WriteFault all within bad = tt
unresumed_as None left' input status.Memory all within bad = tt
unresumed_as (Some xs) left' input (status.Refused line reason) all within bad =
    (record { within = subst (λ (ys : List ℕ). length ys ≤ resume_limit) all.0 within; all = all.1 }, subst (λ (ys : List ℕ). IsUnresumedFor ys (status.Refused line reason)) all.0 bad)
unresumed_as (Some xs) left' input (status.Image x) all within bad =
    (record { within = subst (λ (ys : List ℕ). length ys ≤ resume_limit) all.0 within; all = all.1 }, subst (λ (ys : List ℕ). IsUnresumedFor ys (status.Image x)) all.0 bad)
unresumed_as (Some xs) left' input (status.Differs line) all within bad =
    (record { within = subst (λ (ys : List ℕ). length ys ≤ resume_limit) all.0 within; all = all.1 }, subst (λ (ys : List ℕ). IsUnresumedFor ys (status.Differs line)) all.0 bad)
unresumed_as (Some xs) left' input status.Done all within bad = tt
unresumed_as (Some xs) left' input status.Usage all within bad = tt
unresumed_as (Some xs) left' input status.TooLong all within bad = tt
unresumed_as (Some xs) left' input status.ReadFault all within bad = tt
unresumed_as (Some xs) left' input status.WriteFault all within bad = tt
unresumed_as (Some xs) left' input status.Memory all within bad = tt

pub ends_resume : ScriptsAreNotRefused → ScriptsAreOne → (left left' : Option (List ℕ)) (input : List ℕ) (s : Status) → CanResume left → ConsumesAll left left' input →
    IsUnresumedFor input s → IsDoneWithMemory s
ends_resume law one None left' input s can all bad = absurd can
ends_resume law one (Some xs) left' input s can all bad =
    no_refusal law one xs can s (subst (λ (ys : List ℕ). IsUnresumedFor ys s) all.0 bad)

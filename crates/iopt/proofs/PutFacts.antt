-- What is put, as the words ask.
use Rattle.std.proofs.Common.{◌≡◌, ℕ, ◌^◌, ◌<◌, ◌≤◌, List, [], ◌∷◌, length, Option, None, Some, refl, ap, sym, subst, ◌∙◌, inl, inr, arith}
use Rattle.std.specs.Prelude.{codes, get_or, false, IfOk, Result, Ok, Err, ◌==◌, if◌then◌else◌}
use Rattle.pt_stream.specs.Bytes.{ConsumesAll}
use Rattle.pt_stream.proofs.Spelling.{digits_injective}
use Rattle.pt_model.specs.declared.reply.Reply.{Reply}
use Rattle.pt_script.specs.declared.whole.Script.{Script}
use Rattle.pt_script.specs.declared.error.ScriptError.{ScriptError}
use Rattle.pt_script.specs.declared.error.ScriptError.TheVariants.{Bad, Memory}
use Rattle.pt_laws.specs.Need.{need}
use Rattle.pt_run.specs.Shared.{AmpleRunIsPlain, IsRunShared, SharedRunIsPlain}
use Rattle.pt_made.specs.Formats.{machine_in}
use Rattle.pt_made.specs.Laws.{MadeLackNoFrames}
use Rattle.pt_made.specs.Made.{IsMade}
use Rattle.pt_made.specs.Summary.{summary}
use Rattle.iopt.specs.Words.{AskToMake, AskToResume, AskToRun, AskToRunBy, run_words}
use Rattle.iopt.specs.declared.words.Product.{Product}
use Rattle.iopt.specs.declared.words.Product.TheVariants.{Beside, InTurn, Image}
use Rattle.iopt.specs.Runs.{IsMadeText, IsRefusedFor, ScriptsAreNotRefused, TextsAreOne}
use Rattle.iopt.specs.Top.{CanRun, IsDoneWithMemory, PutAsAsked, PutProduct, PutResumed, script_status}

-- a made script holds what it needs, so the summary of its replies is that of the run in which no map lacks frames
made_text : (number : ℕ) (s : Script) (replies : List Reply) (text : List ℕ) → MadeLackNoFrames → AmpleRunIsPlain → IsMade number s →
    IsRunShared s replies → text ≡ summary number s replies → IsMadeText number text
made_text number s replies text law ample made ran e =
    let enough : need (machine_in s) s.body ≤ s.hold = let h = made.hold in omega (arith, h) in
    let plain = (ample s replies ran enough).plain_too.plain in
    record {
      script = s;
      is_made = made;
      text_is = e ∙ ap (summary number s) (plain.are ∙ sym (law number s made).one_text.same);
    }

pub made_summary : {T E : Type 0} → (number : ℕ) (s : Script) (replies told : List Reply) (items : T → List ℕ) (result : Result T E) →
    MadeLackNoFrames → AmpleRunIsPlain → IsMade number s → IsRunShared s replies → told ≡ replies →
    IfOk result (λ r. items r ≡ summary number s told) → IfOk result (λ r. IsMadeText number (items r))
made_summary number s replies told items (Err e) law ample made ran same h = tt
made_summary number s replies told items (Ok r) law ample made ran same h =
    made_text number s replies (items r) law ample made ran (h ∙ ap (summary number s) same)

-- where no outermost fork is short, the text of a run is that of the run with the branches in turn
pub one_text : SharedRunIsPlain → TextsAreOne
one_text law Beside script text told = λ none.
    let same = law script told.replies told.run none in
    record { empty = same.empty; in_turn = record { replies = told.replies; run = same.plain; text_is = told.text_is } }
one_text law InTurn script text told = tt
one_text law Image script text told = tt

-- a run of the text of a script ends done, but for want of memory
pub script_ends : ScriptsAreNotRefused → (left left' : Option (List ℕ)) (text : List ℕ) (e : ScriptError) → CanRun left → ConsumesAll left left' text →
    IsRefusedFor text e → IsDoneWithMemory (script_status e)
script_ends law None left' text e can all refused = absurd can
script_ends law (Some xs) left' text Memory can all refused = inr refl
script_ends law (Some xs) left' text (Bad line reason) can all refused =
    absurd (law xs line reason can.1 (subst (λ (bytes : List ℕ). IsRefusedFor bytes (Bad line reason)) all.0 refused))

-- Words ask for one thing.

-- what the words `run`, `run --plain` and `save` ask for
abbrev product_in : List (List ℕ) → Product
product_in (w ∷ x ∷ ws) = InTurn
product_in (w ∷ []) = if get_or w 1 0 == 117 then Beside else Image
product_in [] = Image

back : (p : Product) → product_in (run_words p) ≡ p
back Beside = refl
back InTurn = refl
back Image = refl

one_product : (words : List (List ℕ)) (p q : Product) → AskToRunBy words p → AskToRunBy words q → p ≡ q
one_product words p q a b = sym (back p) ∙ ap product_in (sym a ∙ b) ∙ back q

abbrev second : List (List ℕ) → ℕ
second ws = get_or (get_or ws 0 []) 1 0

pub not_resumed : (words : List (List ℕ)) → AskToRun words → ¬ AskToResume words
not_resumed words (Beside, run) resume = apart (ap second (sym resume ∙ run))
  where
    apart : ◌≡◌ {A = ℕ} 101 117 → ⊥
    apart e = omega (arith, e)
not_resumed words (InTurn, run) resume = let e = ap length (sym resume ∙ run) in omega (arith, e)
not_resumed words (Image, run) resume = apart (ap second (sym resume ∙ run))
  where
    apart : ◌≡◌ {A = ℕ} 101 97 → ⊥
    apart e = omega (arith, e)

pub not_run : (words : List (List ℕ)) (number : ℕ) → AskToMake words number → ¬ AskToRun words
not_run words number asks (Beside, run) = let e = ap length (sym asks.words_are ∙ run) in omega (arith, e)
not_run words number asks (Image, run) = let e = ap length (sym asks.words_are ∙ run) in omega (arith, e)
not_run words number asks (InTurn, plain) = apart (ap second (sym asks.words_are ∙ plain))
  where
    apart : ◌≡◌ {A = ℕ} 97 117 → ⊥
    apart e = omega (arith, e)

pub not_resume : (words : List (List ℕ)) (number : ℕ) → AskToMake words number → ¬ AskToResume words
not_resume words number asks resume = let e = ap length (sym asks.words_are ∙ resume) in omega (arith, e)

one_number : (words : List (List ℕ)) (m n : ℕ) → AskToMake words m → AskToMake words n → m ≡ n
one_number words m n a b =
    digits_injective 10 m n (inl refl) a.fits b.fits (ap (λ (ws : List (List ℕ)). get_or ws 1 []) (sym a.words_are ∙ b.words_are))

pub put_made : (words : List (List ℕ)) (number : ℕ) (left left' : Option (List ℕ)) (Put : List ℕ → Type 0) → AskToMake words number →
    ((text : List ℕ) × IsMadeText number text × Put text) → PutAsAsked words left left' Put
put_made words number left left' Put asks put = record {
  run = λ product run. absurd (not_run words number asks (product, run));
  resume = λ resume. absurd (not_resume words number asks resume);
  make = λ n made. subst (λ (k : ℕ). (text : List ℕ) × IsMadeText k text × Put text) (one_number words number n asks made) put;
}

pub put_run : (words : List (List ℕ)) (product : Product) (left left' : Option (List ℕ)) (Put : List ℕ → Type 0) → AskToRunBy words product →
    PutProduct product left left' Put → PutAsAsked words left left' Put
put_run words product left left' Put asks put = record {
  run = λ other run. subst (λ (p : Product). PutProduct p left left' Put) (one_product words product other asks run) put;
  resume = λ resume. absurd (not_resumed words (product, asks) resume);
  make = λ n made. absurd (not_run words n made (product, asks));
}

pub put_resumed : (words : List (List ℕ)) (left left' : Option (List ℕ)) (Put : List ℕ → Type 0) → AskToResume words → PutResumed left left' Put →
    PutAsAsked words left left' Put
put_resumed words left left' Put asks put = record {
  run = λ product run. absurd (not_resumed words (product, run) asks);
  resume = λ resume. put;
  make = λ n made. absurd (not_resume words n made asks);
}

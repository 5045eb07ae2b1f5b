-- What the program answers to a text, and for a number.
use Rattle.std.specs.Prelude.{◌≡◌, ℕ, Bool, false, List, length, Some}
use Rattle.pt_model.specs.declared.reply.Reply.{Reply}
use Rattle.pt_model.specs.Run.{ByAccount, InForks, last_book, new_start, run_of}
use Rattle.pt_model.specs.Text.{replies_text}
use Rattle.pt_laws.specs.OneText.{HasNoShortFork}
use Rattle.pt_script.specs.declared.whole.Script.{Script}
use Rattle.pt_script.specs.declared.error.Reason.{Reason}
use Rattle.pt_script.specs.declared.error.ScriptError.{ScriptError}
use Rattle.pt_script.specs.declared.error.ScriptError.TheVariants.{Bad, Memory}
use Rattle.pt_script.specs.Scripts.{text_in}
use Rattle.pt_script.specs.Text.{IsBadAt}
use Rattle.pt_names.specs.Names.{layout_of}
use Rattle.pt_made.specs.Formats.{machine_in}
use Rattle.pt_made.specs.Made.{IsMade}
use Rattle.pt_made.specs.Summary.{summary}
use Rattle.pt_run.specs.Scripted.{IsRunOfOne}
use Rattle.pt_run.specs.Shared.{IsRunShared}
use Rattle.pt_image.specs.Books.{IsImageBook}
use Rattle.pt_image.specs.Faults.{IsGoodImage}
use Rattle.pt_image.specs.Headers.{HasFields, name_at}
use Rattle.iopt.specs.declared.words.Product.{Product}
use Rattle.iopt.specs.declared.words.Product.TheVariants.{Beside, InTurn, Image}

-- the text is that of replies to a script, of which this is said
pub record IsTextOf (AreReplies : List Reply → Type 0) (script : Script) (text : List ℕ) : Type 0 where
  pub replies : List Reply
  pub run : AreReplies replies
  pub text_is : text ≡ replies_text (layout_of script.format) replies

-- A good image of a script's format, levels and frames, whose book is the last book of the script's run where the account decides
-- of frames.
pub record IsSaved (script : Script) (image : List ℕ) : Type 0 where
  pub number : ℕ
  pub number_is : name_at number ≡ Some script.format
  pub fields : HasFields image (record { number = number; levels = script.levels; frames = script.frames; length = length image })
  pub good : IsGoodImage (layout_of script.format) script.frames script.levels image
  pub book : IsImageBook (layout_of script.format) script.frames script.levels image (last_book (machine_in script) ByAccount script.body)

-- what is put for a script
abbrev pub IsMadeOf : Product → Script → List ℕ → Type 0
IsMadeOf Beside script text = IsTextOf (IsRunShared script) script text
IsMadeOf InTurn script text = IsTextOf (IsRunOfOne script) script text
IsMadeOf Image script image = IsSaved script image

-- no map inside a fork lacks frames, and the text is that of the run with the branches in turn as well
pub record IsInTurnToo (script : Script) (lines : ℕ → Bool) (text : List ℕ) : Type 0 where
  pub empty : (line : ℕ) → lines line ≡ false
  pub in_turn : IsMadeOf InTurn script text

-- where no outermost fork of the script is short in a run with the branches beside each other, this is so
abbrev pub IsOneText : (product : Product) (script : Script) (text : List ℕ) → IsMadeOf product script text → Type 0
IsOneText Beside script text told =
    HasNoShortFork (machine_in script) (InForks told.run.lines) (new_start (machine_in script)) script.body →
    IsInTurnToo script told.run.lines text
IsOneText InTurn script text told = Unit {0}
IsOneText Image script text told = Unit {0}

abbrev pub TextsAreOne : Type 0
TextsAreOne = (product : Product) (script : Script) (text : List ℕ) (told : IsMadeOf product script text) → IsOneText product script text told

-- what is put for a text: it is that of a script, and this is put for the script
pub record IsAnswered (product : Product) (text made : List ℕ) : Type 0 where
  pub script : Script
  pub is_script : text ≡ text_in script
  pub answered : IsMadeOf product script made
  pub one_text : IsOneText product script made answered

-- the text is that of a script
abbrev pub IsScript : List ℕ → Type 0
IsScript text = (script : Script) × (text ≡ text_in script)

-- why a text is refused: it is no script, from this line on and for this reason
abbrev pub IsRefusedFor : (text : List ℕ) → ScriptError → Type 0
IsRefusedFor text Memory = Unit {0}
IsRefusedFor text (Bad line reason) = IsBadAt text line reason

-- the text of a script is refused at no line
abbrev pub ScriptsAreNotRefused : Type 0
ScriptsAreNotRefused = (text : List ℕ) (line : ℕ) (reason : Reason) → IsScript text → ¬ IsBadAt text line reason

-- no two scripts have one text
abbrev pub ScriptsAreOne : Type 0
ScriptsAreOne = (s t : Script) → text_in s ≡ text_in t → s ≡ t

-- the summary of the run of a number's made script, in which no map lacks frames
pub record IsMadeText (number : ℕ) (text : List ℕ) : Type 0 where
  pub script : Script
  pub is_made : IsMade number script
  pub text_is : text ≡ summary number script (run_of (machine_in script) script.body script.tail (λ line. false))

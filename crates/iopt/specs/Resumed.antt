-- What the program answers to an image and a script behind it.
use Rattle.std.specs.Prelude.{◌≡◌, ◌≢◌, ◌⊎◌, ℕ, ◌*◌, ◌^◌, ◌<◌, ◌≤◌, List, drop, length, take, Some}
use Rattle.pt_model.specs.declared.command.Name.{Name}
use Rattle.pt_model.specs.Book.{Book}
use Rattle.pt_model.specs.Layout.{Layout}
use Rattle.pt_image.specs.Books.{IsImageBook}
use Rattle.pt_image.specs.Faults.{IsGoodImage, IsRefusedFor}
use Rattle.pt_image.specs.Headers.{HasFields, HasHeaderFault, name_at}
use Rattle.pt_image.specs.declared.fault.CheckRefused.{CheckRefused}
use Rattle.pt_image.specs.declared.fault.CheckRefused.TheVariants.{Fault}
use Rattle.pt_image.specs.declared.fault.CheckRefused.TheVariants.{Memory as NoMemory}
use Rattle.pt_image.specs.declared.header.Header.{Header}
use Rattle.pt_script.specs.declared.whole.Script.{Script}
use Rattle.pt_script.specs.Scripts.{text_in}
use Rattle.pt_script.specs.Text.{IsBadAt}
use Rattle.pt_names.specs.Names.{layout_of}
use Rattle.pt_space.specs.Saved.{SavedWords}
use Rattle.pt_run.specs.Shared.{IsRunFrom}
use Rattle.iopt.specs.Runs.{IsTextOf}
use Rattle.iopt.specs.declared.status.Status.{Status}
use Rattle.iopt.specs.declared.status.Status.TheVariants.{TooLong, Refused, Memory, Image, Differs}

-- the most bytes of a script, and of an image and a script behind it
abbrev pub input_limit : ℕ
input_limit = 2 ^ 20

abbrev pub resume_limit : ℕ
resume_limit = 130 * 2 ^ 20

-- the image that an input begins with, and what follows it
abbrev pub image_in : Header → List ℕ → List ℕ
image_in h input = take h.length input

abbrev pub script_in : Header → List ℕ → List ℕ
script_in h input = drop h.length input

-- the input begins with an image of this header, and what follows is no longer than a script may be
pub record BeginsWith (input : List ℕ) (h : Header) : Type 0 where
  pub fields : HasFields input h
  pub whole : h.length ≤ length input
  pub few : length (script_in h input) ≤ input_limit

-- the image is good
pub record BeginsWell (input : List ℕ) (h : Header) : Type 0 where
  pub begins : BeginsWith input h
  pub good : IsGoodImage (layout_of begins.fields.name) h.frames h.levels (image_in h input)

-- a script's lines of format, frames and hold are those of an image, which holds no frame
pub record HasFormatOf (h : Header) (script : Script) : Type 0 where
  pub format : name_at h.number ≡ Some script.format
  pub levels : script.levels ≡ h.levels

pub record HasHeaderOf (h : Header) (script : Script) : Type 0 where
  pub format : HasFormatOf h script
  pub frames : script.frames ≡ h.frames
  pub hold : script.hold ≡ 0

-- the first of these lines that isn't the image's
pub data DiffersAt (h : Header) (script : Script) : (line : ℕ) → Type 0 where
  other_format : ¬ HasFormatOf h script → DiffersAt h script 1
  other_frames : HasFormatOf h script → script.frames ≢ h.frames → DiffersAt h script 2
  some_hold : HasFormatOf h script → script.frames ≡ h.frames → script.hold ≢ 0 → DiffersAt h script 3

-- the input is a good image with this book, and behind it the text of a script that doesn't differ
pub record IsChecked (input : List ℕ) (script : Script) (book : Book) : Type 0 where
  pub header : Header
  pub well : BeginsWell input header
  pub is_script : script_in header input ≡ text_in script
  pub same : HasHeaderOf header script
  pub book_is : IsImageBook (layout_of script.format) script.frames script.levels (image_in header input) book

-- the same, and the text is that of the replies to the script, begun with the image's book
pub record IsResumed (input text : List ℕ) : Type 0 where
  pub script : Script
  pub book : Book
  pub checked : IsChecked input script book
  pub answered : IsTextOf (IsRunFrom script book) script text

-- saved words are of a script's format, levels and frames, and it holds no frame
pub record AreOf (f : Layout) (saved : SavedWords) (script : Script) : Type 0 where
  pub format : layout_of script.format ≡ f
  pub levels : saved.levels ≡ script.levels
  pub frames : saved.frames ≡ script.frames
  pub hold : script.hold ≡ 0

-- the header is of a format with this layout
abbrev pub IsOfFormat : Layout → Header → Type 0
IsOfFormat f h = (name : Name) → name_at h.number ≡ Some name → layout_of name ≡ f

-- how a run ends whose image is refused
abbrev pub check_status : CheckRefused → Status
check_status (Fault fault) = Image fault
check_status NoMemory = Memory

-- Why an input isn't resumed, in the order of tests: the header, what follows the image, the image's root, entries and frames, the
-- script, and its header.
abbrev pub IsUnresumedFor : (input : List ℕ) → Status → Type 0
IsUnresumedFor input (Image fault) =
    HasHeaderFault input fault
    ⊎ ((h : Header) × (begins : BeginsWith input h) × IsRefusedFor (layout_of begins.fields.name) h.frames h.levels (image_in h input) fault)
IsUnresumedFor input TooLong = (h : Header) × HasFields input h × (h.length ≤ length input) × (input_limit < length (script_in h input))
IsUnresumedFor input (Refused line reason) = (h : Header) × BeginsWell input h × IsBadAt (script_in h input) line reason
IsUnresumedFor input (Differs line) =
    (h : Header) × BeginsWell input h × ((script : Script) × (script_in h input ≡ text_in script) × DiffersAt h script line)
IsUnresumedFor input Memory = Unit {0}
IsUnresumedFor input other = ⊥

-- the input can be resumed
pub record MayResume (input : List ℕ) : Type 0 where
  pub within : length input ≤ resume_limit
  pub header : Header
  pub well : BeginsWell input header
  pub script : Script
  pub is_script : script_in header input ≡ text_in script
  pub same : HasHeaderOf header script

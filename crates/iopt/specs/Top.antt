-- What a run of the program leaves, by how it ends. `None` in place of bytes says that a source or a sink
-- doesn't tell them, and then nothing is claimed of them.
use Rattle.std.specs.Prelude.{◌≡◌, ◌≢◌, ◌⊎◌, ℕ, ◌^◌, ◌<◌, ◌≤◌, List, [], length, Option, None, Some, IfSome}
use Rattle.std.specs.IoError.{error_kind}
use Rattle.std.specs.declared.io.Error.{Error}
use Rattle.std.specs.declared.io.ErrorKind.TheVariants.{OutOfMemory}
use Rattle.iopt.specs.declared.status.Status.{Status}
use Rattle.iopt.specs.declared.status.Status.TheVariants as status
use Rattle.iopt.specs.declared.status.Status.TheVariants.{Done, WriteFault, Refused, Image, Differs}
use Rattle.pt_stream.specs.declared.whole.ReadError.{ReadError}
use Rattle.pt_stream.specs.declared.whole.ReadError.TheVariants as reading
use Rattle.pt_script.specs.declared.error.ScriptError.{ScriptError}
use Rattle.pt_script.specs.declared.error.ScriptError.TheVariants as script
use Rattle.pt_script.specs.Text.{IsBadAt}
use Rattle.iopt.specs.declared.words.Product.{Product}
use Rattle.iopt.specs.Words.{AskToMake, AskToResume, AskToRunBy}
use Rattle.iopt.specs.Runs.{IsAnswered, IsMadeText, IsScript}
use Rattle.iopt.specs.Resumed.{input_limit, resume_limit, IsResumed, IsUnresumedFor, MayResume}

-- how a run ends whose command line wasn't read: for want of memory, or for what its words are
pub record IsUnreadBy (error : Error) (s : Status) : Type 0 where
  pub memory : error_kind error ≡ OutOfMemory → s ≡ status.Memory
  pub words : error_kind error ≢ OutOfMemory → s ≡ status.Usage

-- the ends of a run whose command line wasn't read
abbrev pub IsUnread : Status → Type 0
IsUnread s = (s ≡ status.Memory) ⊎ (s ≡ status.Usage)

-- how a run ends whose input wasn't read, or is refused
abbrev pub read_status : ReadError → Status
read_status reading.Fault = status.ReadFault
read_status reading.TooLong = status.TooLong
read_status reading.Memory = status.Memory

abbrev pub script_status : ScriptError → Status
script_status (script.Bad line reason) = Refused line reason
script_status script.Memory = status.Memory

-- a source is as it was: the bytes that are left, those given, and its faults
pub record IsUntouched (left left' : Option (List ℕ)) (given given' faults faults' : ℕ) : Type 0 where
  pub left_is : left' ≡ left
  pub given_is : given' ≡ given
  pub faults_are : faults' ≡ faults

-- the whole input was read: it is within a limit, and none of it is left
pub record IsReadTo (limit : ℕ) (text : List ℕ) (left' : Option (List ℕ)) : Type 0 where
  pub within : length text ≤ limit
  pub all : left' ≡ Some []

abbrev pub IsRead : List ℕ → Option (List ℕ) → Type 0
IsRead text left' = IsReadTo input_limit text left'

-- the whole input was read, it is a script's text, and of what is put for it so much was put
abbrev pub PutProduct : Product → (left left' : Option (List ℕ)) → (Put : List ℕ → Type 0) → Type 0
PutProduct product None left' Put = Unit {0}
PutProduct product (Some text) left' Put = IsRead text left' × ((made : List ℕ) × IsAnswered product text made × Put made)

-- the whole input was read, it is resumed, and of the replies so much was put
abbrev pub PutResumed : (left left' : Option (List ℕ)) → (Put : List ℕ → Type 0) → Type 0
PutResumed None left' Put = Unit {0}
PutResumed (Some input) left' Put = IsReadTo resume_limit input left' × ((text : List ℕ) × IsResumed input text × Put text)

-- what was put, all or a part, is what the words ask for
pub record PutAsAsked (words : List (List ℕ)) (left left' : Option (List ℕ)) (Put : List ℕ → Type 0) : Type 0 where
  pub run : (product : Product) → AskToRunBy words product → PutProduct product left left' Put
  pub resume : AskToResume words → PutResumed left left' Put
  pub make : (number : ℕ) → AskToMake words number → (text : List ℕ) × IsMadeText number text × Put text

-- the whole input was read, and it is refused at this line
abbrev pub RefusedAs : (left left' : Option (List ℕ)) → Status → Type 0
RefusedAs (Some text) left' (Refused line reason) = IsRead text left' × IsBadAt text line reason
RefusedAs left left' other = Unit {0}

-- the whole input was read, and it isn't resumed for this
abbrev pub UnresumedAs : (left left' : Option (List ℕ)) → Status → Type 0
UnresumedAs (Some input) left' (Refused line reason) = IsReadTo resume_limit input left' × IsUnresumedFor input (Refused line reason)
UnresumedAs (Some input) left' (Image fault) = IsReadTo resume_limit input left' × IsUnresumedFor input (Image fault)
UnresumedAs (Some input) left' (Differs line) = IsReadTo resume_limit input left' × IsUnresumedFor input (Differs line)
UnresumedAs left left' other = Unit {0}

-- the end isn't one of a resumed run alone
abbrev pub IsOfNoImage : Status → Type 0
IsOfNoImage (Image fault) = ⊥
IsOfNoImage (Differs line) = ⊥
IsOfNoImage other = Unit {0}

-- more bytes follow a whole image than a script may have
abbrev pub IsLongBehind : Option (List ℕ) → Type 0
IsLongBehind left = IfSome left (λ input. IsUnresumedFor input status.TooLong)

-- the input is longer than the limit
abbrev pub IsLong : Option (List ℕ) → Type 0
IsLong left = IfSome left (λ text. input_limit < length text)

-- the input is told, is within the limit, and is the text of a script
abbrev pub CanRun : Option (List ℕ) → Type 0
CanRun None = ⊥
CanRun (Some text) = (length text ≤ input_limit) × IsScript text

-- the input is told, and can be resumed
abbrev pub CanResume : Option (List ℕ) → Type 0
CanResume None = ⊥
CanResume (Some input) = MayResume input

-- the run is done, but for want of memory
abbrev pub IsDoneWithMemory : Status → Type 0
IsDoneWithMemory s = (s ≡ Done) ⊎ (s ≡ status.Memory)

-- the ends of a run that reads nothing
abbrev pub IsMadeEnd : Status → Type 0
IsMadeEnd s = IsDoneWithMemory s ⊎ (s ≡ WriteFault)

-- nothing is put, but where the replies are written
abbrev pub PutsNothing : Status → (held held' : Option (List ℕ)) → Type 0
PutsNothing Done held held' = Unit {0}
PutsNothing WriteFault held held' = Unit {0}
PutsNothing other held held' = held' ≡ held

-- The run of a script on a shared space, with the branches of its forks beside each other: a new one, or one that has a book.
use Rattle.std.specs.Prelude.{◌≡◌, ℕ, ◌≤◌, Bool, true, false, List, ◌∷◌, ◌++◌}
use Rattle.pt_model.specs.declared.command.Command.{Command}
use Rattle.pt_model.specs.declared.reply.Reply.{Reply}
use Rattle.pt_model.specs.declared.command.Ask.{Ask}
use Rattle.pt_model.specs.Book.{Book, new_book}
use Rattle.pt_model.specs.Layout.{Layout}
use Rattle.pt_model.specs.Run.{Machine, State, Decided, InForks, ask_replies, at_start, is_in_fork, lacked_lines, new_start, replies_from, state_after}
use Rattle.pt_script.specs.declared.whole.Script.{Script}
use Rattle.pt_laws.specs.Need.{need, IsUncovered}
use Rattle.pt_laws.specs.OneText.{HasNoShortFork}
use Rattle.pt_forks.specs.Running.{AreTold}
use Rattle.pt_space.specs.Saved.{SavedWords, saved_view}
use Rattle.pt_reply.specs.Running.{book_in}
use Rattle.pt_reply.specs.Telling.{IsTellable}
use Rattle.pt_names.specs.Names.{layout_of}
use Rattle.pt_made.specs.Formats.{machine_in}
use Rattle.pt_run.specs.Scripted.{IsRunOfOne}

-- the book that saved words say
abbrev pub saved_book : Layout → SavedWords → Book
saved_book f saved = book_in (saved_view f saved.frames saved.levels 0 saved.words)

-- the replies to commands that are run from a book on, and to what is asked behind them
abbrev pub run_begun : Machine → Decided → Book → List Command → List Ask → List Reply
run_begun m by book body tail = replies_from m by (at_start book) body ++ ask_replies m (state_after m by (at_start book) body).book tail

-- a line of a command that stands in an open fork, whose printed reply is `map frames`
pub record IsForksLine (m : Machine) (start : State) (body : List Command) (lines : ℕ → Bool) (line : ℕ) : Type 0 where
  pub before : List Command
  pub here : Command
  pub rest : List Command
  pub whole : body ≡ before ++ here ∷ rest
  pub line_is : here.line ≡ line
  pub inside : is_in_fork (state_after m (InForks lines) start before).forks ≡ true
  pub printed : lacked_lines (replies_from m (InForks lines) start body) line ≡ true

-- the set has these lines, and no other
pub record AreForksLines (m : Machine) (start : State) (body : List Command) (lines : ℕ → Bool) : Type 0 where
  pub each : (line : ℕ) → lines line ≡ true → IsForksLine m start body lines line
  pub all : (line : ℕ) → IsForksLine m start body lines line → lines line ≡ true

-- The replies to a script whose forks are run beside each other, begun with a book. Maps lack frames outside forks where the
-- account is short, and inside them on the lines that are answered so; each of these stands in an outermost fork that doesn't
-- cover it. Each reply has a text in the script's format.
pub record IsRunFrom (script : Script) (book : Book) (replies : List Reply) : Type 0 where
  pub lines : ℕ → Bool
  pub are : replies ≡ run_begun (machine_in script) (InForks lines) book script.body script.tail
  pub printed : AreForksLines (machine_in script) (at_start book) script.body lines
  pub uncovered : (line : ℕ) → lines line ≡ true → IsUncovered (machine_in script) (InForks lines) (at_start book) script.body line
  pub told : AreTold (IsTellable (layout_of script.format)) replies

-- the same on a new space
abbrev pub IsRunShared : Script → List Reply → Type 0
IsRunShared script replies = IsRunFrom script (new_book (layout_of script.format) script.levels) replies

-- no line inside a fork was answered so, and the replies are those of the run over one owner
pub record IsPlainToo (script : Script) (lines : ℕ → Bool) (replies : List Reply) : Type 0 where
  pub empty : (line : ℕ) → lines line ≡ false
  pub plain : IsRunOfOne script replies

-- where no outermost fork is short, the run is that over one owner
abbrev pub SharedRunIsPlain : Type 0
SharedRunIsPlain =
    (script : Script) (replies : List Reply) (run : IsRunShared script replies) →
    HasNoShortFork (machine_in script) (InForks run.lines) (new_start (machine_in script)) script.body →
    IsPlainToo script run.lines replies

-- the run is that over one owner, and no reply is `map frames`
pub record IsAmplyRun (script : Script) (lines : ℕ → Bool) (replies : List Reply) : Type 0 where
  pub plain_too : IsPlainToo script lines replies
  pub no_frames : (line : ℕ) → lacked_lines replies line ≡ false

-- where the frames held are at least the script's need, this is so
abbrev pub AmpleRunIsPlain : Type 0
AmpleRunIsPlain =
    (script : Script) (replies : List Reply) (run : IsRunShared script replies) →
    need (machine_in script) script.body ≤ script.hold →
    IsAmplyRun script run.lines replies

-- The run of a script over one owner.
use Rattle.std.specs.Prelude.{◌≡◌, ℕ, List}
use Rattle.pt_model.specs.declared.command.Command.{Command}
use Rattle.pt_model.specs.declared.reply.Reply.{Reply}
use Rattle.pt_model.specs.Book.{Book}
use Rattle.pt_model.specs.Run.{Machine, ByAccount, last_book, new_start, replies_from, run_by}
use Rattle.pt_view.specs.Views.{book_of}
use Rattle.pt_closed.specs.Closed.{IsClosed}
use Rattle.pt_script.specs.declared.whole.Script.{Script}
use Rattle.pt_forks.specs.Running.{AreTold}
use Rattle.pt_reply.specs.Telling.{IsTellable}
use Rattle.pt_names.specs.Names.{layout_of}
use Rattle.pt_made.specs.Formats.{machine_in}

-- the words are those of a closed space of a machine, with this book
pub record Closes (m : Machine) (book : Book) (words : List ℕ) : Type 0 where
  pub closed : IsClosed m.layout m.frames words
  pub levels : closed.levels ≡ m.levels
  pub book_is : book_of closed.view closed.blocks ≡ book

-- the replies are those of a script's run where the account decides of frames, and each has a text in the script's format
pub record IsRunOfOne (script : Script) (replies : List Reply) : Type 0 where
  pub are : replies ≡ run_by (machine_in script) ByAccount script.body script.tail
  pub told : AreTold (IsTellable (layout_of script.format)) replies

-- what commands leave over one owner of a new space: the words of the closed space, with the last book, and their replies
pub record EndsOfOne (m : Machine) (body : List Command) (words : List ℕ) (replies : List Reply) : Type 0 where
  pub closes : Closes m (last_book m ByAccount body) words
  pub are : replies ≡ replies_from m ByAccount (new_start m) body
  pub told : AreTold (IsTellable m.layout) replies

-- the words are those of a closed space with the last book of a script's run where the account decides of frames
abbrev pub IsLastOfOne : Script → List ℕ → Type 0
IsLastOfOne script words = Closes (machine_in script) (last_book (machine_in script) ByAccount script.body) words

-- A run in its middle.
use Rattle.std.specs.Prelude.{◌≡◌, true, List, ◌++◌}
use Rattle.pt_model.specs.declared.command.Command.{Command}
use Rattle.pt_model.specs.Book.{Book}
use Rattle.pt_model.specs.Run.{Machine, Opened, State, Decided, is_running, replies_from, state_after}
use Rattle.pt_model.specs.declared.reply.Reply.{Reply}

abbrev pub in_forks : Book → List Opened → State
in_forks book forks = record { book = book; forks = forks }

-- From one book and the commands `cs` on, the run comes to another book and the commands `later`, and the replies grow
-- from `old` to `new`, whatever forks are open around, if they are run.
pub record Goes (m : Machine) (by : Decided) (b b' : Book) (cs later : List Command) (old new : List Reply) : Type 0 where
  pub replies : (forks : List Opened) → is_running forks ≡ true →
      old ++ replies_from m by (in_forks b forks) cs ≡ new ++ replies_from m by (in_forks b' forks) later
  pub state : (forks : List Opened) → is_running forks ≡ true →
      state_after m by (in_forks b forks) cs ≡ state_after m by (in_forks b' forks) later

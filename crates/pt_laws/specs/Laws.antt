-- That the branches of a fork come to the same on one book, one after the other, and on two books.
use Rattle.std.specs.Prelude.{◌≡◌, ℕ, Bool, true, List, IsTrue, None}
use Rattle.pt_model.specs.declared.command.Command.{Command}
use Rattle.pt_model.specs.Layout.{is_size}
use Rattle.pt_model.specs.Pages.{page_under}
use Rattle.pt_model.specs.Book.{Book, IsLawful, span_end}
use Rattle.pt_model.specs.Run.{Machine, Opened, State, Decided, InForks, ByLines, at_start, is_running, at_fork, at_with, at_end, replies_from, state_after}
use Rattle.pt_model.specs.Cuts.{cut_refusal, part_of, joined}
use Rattle.pt_laws.specs.Apart.{AreClosed}

-- the two parts of a book that is cut at a byte
abbrev pub left_part : Machine → Book → (at : ℕ) → State
left_part m b at = at_start (part_of m.layout b b.first (page_under m.layout at))

abbrev pub right_part : Machine → Book → (at : ℕ) → State
right_part m b at = at_start (part_of m.layout b (page_under m.layout at) (span_end b))

-- where the run of a fork stands before its left branch, behind it, before its right branch and behind that
abbrev pub in_left : Machine → Book → List Opened → (at : ℕ) → State
in_left m b forks at = at_fork m (record { book = b; forks = forks }) at

abbrev pub left_done : Machine → Decided → Book → List Opened → (at : ℕ) → List Command → State
left_done m by b forks at left = state_after m by (in_left m b forks at) left

abbrev pub in_right : Machine → Decided → Book → List Opened → (at : ℕ) → List Command → State
in_right m by b forks at left = at_with (left_done m by b forks at left).book (left_done m by b forks at left).forks

abbrev pub right_done : Machine → Decided → Book → List Opened → (at : ℕ) → (left right : List Command) → State
right_done m by b forks at left right = state_after m by (in_right m by b forks at left) right

-- The branches of a fork, run on the two parts, and run in turn.
pub record ComeTogether (m : Machine) (by : Decided) (lines : ℕ →
    Bool) (b : Book) (forks : List Opened) (at : ℕ) (left right : List Command) : Type 0 where
  pub left_replies : replies_from m by (in_left m b forks at) left ≡ replies_from m (ByLines lines) (left_part m b at) left
  pub right_replies : replies_from m by (in_right m by b forks at left) right ≡ replies_from m (ByLines lines) (right_part m b at) right
  pub book : at_end (right_done m by b forks at left right).book (right_done m by b forks at left right).forks
      ≡ record { book = joined (state_after m (ByLines lines) (left_part m b at) left).book (state_after m (ByLines lines) (right_part m b at) right).book; forks = forks }

-- A fork that is run and isn't refused: what decides of frames inside it is a set of lines.
pub data DecidesByLines : Decided → (ℕ → Bool) → Type 0 where
  in_forks : (lines : ℕ → Bool) → DecidesByLines (InForks lines) lines
  by_lines : (lines : ℕ → Bool) → DecidesByLines (ByLines lines) lines

abbrev pub BranchesComeTogether : Type 0
BranchesComeTogether =
    (m : Machine) (by : Decided) (lines : ℕ → Bool) (b : Book) (forks : List Opened) (at : ℕ) (left right : List Command) →
    DecidesByLines by lines → IsTrue (is_size m.layout 0) → IsLawful m.layout m.levels b →
    is_running forks ≡ true → cut_refusal m.layout b at ≡ None → AreClosed 0 left → AreClosed 0 right →
    ComeTogether m by lines b forks at left right

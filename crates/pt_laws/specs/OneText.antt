-- The whole run: its lines that lack frames inside forks, and where both runs print the same.
use Rattle.std.specs.Prelude.{◌≡◌, ℕ, ◌<◌, ◌≤◌, Bool, true, false, List, [], ◌∷◌, ◌++◌, None, IsTrue}
use Rattle.pt_model.specs.declared.command.What.{What}
use Rattle.pt_model.specs.declared.command.What.TheVariants.{Fork, With, End}
use Rattle.pt_model.specs.declared.command.Command.{Command}
use Rattle.pt_model.specs.declared.command.Ask.{Ask}
use Rattle.pt_model.specs.Layout.{is_size}
use Rattle.pt_model.specs.Book.{new_book}
use Rattle.pt_model.specs.Run.{Machine, State, Decided, ByAccount, InForks, at_start, new_start, state_after, replies_from, run_by, run_of, lacked_lines}
use Rattle.pt_model.specs.declared.reply.Reply.{Reply}
use Rattle.pt_model.specs.Cuts.{cut_refusal}
use Rattle.pt_laws.specs.Need.{need, fork_lines, IsOutermost, IsUncovered, is_short_fork}
use Rattle.pt_laws.specs.Covers.{Stand, Wants, LackOnly, IsDealtWhole}

-- whether a command is no line of a fork
abbrev pub is_call : What → Bool
is_call (Fork at) = false
is_call With = false
is_call End = false
is_call _ = true

-- each fork has its `with` and its `end`
pub data IsNested : List Command → Type 0 where
  nothing : IsNested []
  call : (c : Command) (cs : List Command) → is_call c.what ≡ true → IsNested cs → IsNested (c ∷ cs)
  fork : (line at middle last : ℕ) (left right cs : List Command) → IsNested left → IsNested right → IsNested cs →
      IsNested (fork_lines line at middle last left right cs)

-- A run of the whole space, with what each outermost fork leaves of the purses. Outside forks nothing is asked of a call but
-- that its book is the run's. The replies inside forks are told apart from all.
pub data RunsWhole (m : Machine) (by : Decided) : List Command → (s s' : Stand) → (all inside : List Reply) → Type 0 where
  nothing : (s : Stand) → RunsWhole m by [] s s [] []
  call : (c : Command) (cs : List Command) (s s' s'' : Stand) (r : Reply) (rs inside : List Reply) →
      state_after m by (at_start s.book) (c ∷ []) ≡ at_start s'.book →
      RunsWhole m by cs s' s'' rs inside → RunsWhole m by (c ∷ cs) s s'' (r ∷ rs) inside
  past : (line at middle last : ℕ) (left right cs : List Command) (s s' s'' : Stand) (r : Reply) (rs inside : List Reply) →
      state_after m by (at_start s.book) (fork_lines line at middle last left right []) ≡ at_start s'.book →
      RunsWhole m by cs s' s'' rs inside → RunsWhole m by (fork_lines line at middle last left right cs) s s'' (r ∷ rs) inside
  fork : (line at middle last : ℕ) (left right cs : List Command) (s l t j s'' : Stand) (r : Reply) (ls ts rs inside : List Reply) →
      IsNested left → IsNested right → cut_refusal m.layout s.book at ≡ None →
      IsDealtWhole m s.book left right l t → LackOnly (Wants m l.purse left) ls → LackOnly (Wants m t.purse right) ts →
      state_after m by (at_start s.book) (fork_lines line at middle last left right []) ≡ at_start j.book →
      RunsWhole m by cs j s'' rs inside →
      RunsWhole m by (fork_lines line at middle last left right cs) s s'' (r ∷ (ls ++ (ts ++ rs))) (ls ++ (ts ++ inside))

-- a map that lacks frames inside a fork stands in an outermost fork that doesn't cover its line
abbrev pub LackUncovered : Type 0
LackUncovered =
    (m : Machine) (by : Decided) (cs : List Command) (s s' : Stand) (all inside : List Reply) →
    RunsWhole m by cs s s' all inside → LackOnly (IsUncovered m by (at_start s.book) cs) inside

-- so each line of the set that was printed is uncovered
abbrev pub PrintedUncovered : Type 0
PrintedUncovered =
    (m : Machine) (by : Decided) (cs : List Command) (s s' : Stand) (all inside : List Reply) →
    RunsWhole m by cs s s' all inside → (line : ℕ) → lacked_lines inside line ≡ true → IsUncovered m by (at_start s.book) cs line

-- no outermost fork is short
abbrev pub HasNoShortFork : Machine → Decided → State → List Command → Type 0
HasNoShortFork m by start cs =
    (before left right rest : List Command) (line middle last at : ℕ) →
    IsOutermost m by start cs before left right rest line middle last at →
    ¬ is_short_fork m (state_after m by start before).book left right

pub record IsOneText (m : Machine) (body : List Command) (tail : List Ask) (lines : ℕ → Bool) : Type 0 where
  pub empty : (line : ℕ) → lines line ≡ false
  pub same : run_of m body tail lines ≡ run_by m ByAccount body tail

-- where no outermost fork is short, and each line of a set stands in one that doesn't cover it, there is no such line, and
-- the run with that set is the run of one owner
abbrev pub OneText : Type 0
OneText =
    (m : Machine) (body : List Command) (tail : List Ask) (lines : ℕ → Bool) → IsTrue (is_size m.layout 0) → IsNested body →
    HasNoShortFork m (InForks lines) (new_start m) body →
    ((line : ℕ) → lines line ≡ true → IsUncovered m (InForks lines) (new_start m) body line) →
    IsOneText m body tail lines

-- where the frames held are at least the need, this is so, and no `frames` is printed
pub record IsAmple (m : Machine) (body : List Command) (tail : List Ask) (lines : ℕ → Bool) : Type 0 where
  pub one_text : IsOneText m body tail lines
  pub no_frames : (line : ℕ) → lacked_lines (replies_from m (InForks lines) (new_start m) body) line ≡ false

abbrev pub HoldIsAmple : Type 0
HoldIsAmple =
    (m : Machine) (hold : ℕ) (body : List Command) (tail : List Ask) (lines : ℕ → Bool) → IsTrue (is_size m.layout 0) → IsNested body →
    hold < m.frames → need m body ≤ hold →
    ((line : ℕ) → lines line ≡ true → IsUncovered m (InForks lines) (new_start m) body line) →
    IsAmple m body tail lines

-- where no outermost fork is short in the run with the lines that were printed, no line was, and both runs are one
abbrev pub SharedIsPlain : Type 0
SharedIsPlain =
    (m : Machine) (hold : ℕ) (body : List Command) (tail : List Ask) (s' : Stand) (all inside : List Reply) →
    IsTrue (is_size m.layout 0) → IsNested body →
    RunsWhole m (InForks (lacked_lines inside)) body (record { book = new_book m.layout m.levels; purse = hold }) s' all inside →
    HasNoShortFork m (InForks (lacked_lines inside)) (new_start m) body →
    IsOneText m body tail (lacked_lines inside)

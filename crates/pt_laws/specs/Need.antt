-- How many frames the maps of commands may take, and when the frames that are there cover a map inside a fork.
use Rattle.std.specs.Prelude.{◌≡◌, ◌≢◌, ◌⊎◌, ℕ, ◌+◌, ◌-◌, ◌/◌, ◌^◌, ◌≤◌, ◌<◌, min, Bool, false, List, [], ◌∷◌, ◌++◌, length, Some, None, IsTrue}
use Rattle.pt_model.specs.declared.block.Prot.{Prot}
use Rattle.pt_model.specs.declared.position.Position.{Position}
use Rattle.pt_model.specs.declared.command.What.{What}
use Rattle.pt_model.specs.declared.command.What.TheVariants.{Map, Fork, With, End}
use Rattle.pt_model.specs.declared.command.Command.{Command}
use Rattle.pt_model.specs.Layout.{is_size}
use Rattle.pt_model.specs.Pages.{page_under}
use Rattle.pt_model.specs.Tiling.{tiling}
use Rattle.pt_model.specs.Tables.{all_needed, add_positions}
use Rattle.pt_model.specs.Book.{Book, new_book, map_refusal, linked_count}
use Rattle.pt_model.specs.Run.{Machine, lacks_frames, State, Decided, InForks, at_start, state_after}
use Rattle.pt_model.specs.Cuts.{cut_refusal}

-- the positions that a map needs: none where its numbers alone refuse it
abbrev pub needed_by : Machine → What → List Position
needed_by m (Map va pa len prot) = elim (map_refusal m.layout (new_book m.layout m.levels) va pa len) [
  | Some refusal ↦ []
  | None ↦
      all_needed m.layout m.levels
      (tiling m.layout prot (page_under m.layout va) (pa / 2 ^ m.layout.granule) (len / 2 ^ m.layout.granule))
]
needed_by m _ = []

-- how many without the starting top, which every map needs and every space has, up to one more than all frames
abbrev pub need_of_one : Machine → What → ℕ
need_of_one m what = min (m.frames + 1) (length (needed_by m what) - 1)

-- the need of commands: of all their maps, in branches too
abbrev pub need : Machine → List Command → ℕ
need m [] = 0
need m (c ∷ cs) = need_of_one m c.what + need m cs

-- the use of commands: the distinct positions that their maps need, without the starting top
abbrev pub used_by : Machine → List Command → List Position
used_by m [] = []
used_by m (c ∷ cs) = add_positions (used_by m cs) (needed_by m c.what)

abbrev pub use_of : Machine → List Command → ℕ
use_of m cs = length (used_by m cs) - 1

-- the frames that aren't linked where an outermost fork begins
abbrev pub share_at : Machine → Book → ℕ
share_at m book = m.frames - linked_count m.levels book

-- the lines of a fork and what follows it
abbrev pub fork_lines : (line at middle last : ℕ) → (left right rest : List Command) → List Command
fork_lines line at middle last left right rest =
    record { line = line; what = Fork at }
    ∷ (left ++ (record { line = middle; what = With } ∷ (right ++ (record { line = last; what = End } ∷ rest))))

-- An outermost fork of the commands, where the run comes to it and admits it: the commands before it, its line and
-- byte, its branches, and what follows.
pub record IsOutermost (m : Machine) (by : Decided) (start : State) (cs before left right rest : List Command) (line middle last at : ℕ) : Type 0 where
  pub whole : cs ≡ before ++ fork_lines line at middle last left right rest
  pub outside : (state_after m by start before).forks ≡ []
  pub left_ends : (s : State) → (state_after m by s left).forks ≡ s.forks
  pub right_ends : (s : State) → (state_after m by s right).forks ≡ s.forks
  pub admitted : cut_refusal m.layout (state_after m by start before).book at ≡ None

abbrev pub is_short_fork : Machine → Book → (left right : List Command) → Type 0
is_short_fork m book left right = m.frames < linked_count m.levels book + (need m left + need m right)

-- whether no fork is among commands
abbrev pub HasNoFork : List Command → Type 0
HasNoFork [] = Unit {0}
HasNoFork (c ∷ cs) = ((at : ℕ) → c.what ≢ Fork at) × HasNoFork cs

-- the shares of the branches of an outermost fork
abbrev pub left_share : Machine → Book → (left : List Command) → ℕ
left_share m book left = min (need m left) (share_at m book)

abbrev pub right_share : Machine → Book → (left : List Command) → ℕ
right_share m book left = share_at m book - left_share m book left

-- The fork covers the line of the command `c`, which follows `upto` in its left branch, or in its right branch: by the
-- need of all maps of the fork up to the line, or else by what the branch's own maps up to it use, where no inner
-- fork stands among them.
abbrev pub CoversLeft : Machine → Book → (left upto : List Command) → Command → Type 0
CoversLeft m book left upto c =
    (need m (upto ++ c ∷ []) ≤ share_at m book)
    ⊎ (HasNoFork upto × (use_of m (upto ++ c ∷ []) ≤ left_share m book left))

abbrev pub CoversRight : Machine → Book → (left upto : List Command) → Command → Type 0
CoversRight m book left upto c =
    (need m left + need m (upto ++ c ∷ []) ≤ share_at m book)
    ⊎ (HasNoFork upto × (use_of m (upto ++ c ∷ []) ≤ right_share m book left))

-- a line of commands stands in the left or in the right branch of an outermost fork that doesn't cover it
pub record IsUncovered (m : Machine) (by : Decided) (start : State) (cs : List Command) (line : ℕ) : Type 0 where
  pub before : List Command
  pub left : List Command
  pub right : List Command
  pub rest : List Command
  pub fork_line : ℕ
  pub with_line : ℕ
  pub end_line : ℕ
  pub at : ℕ
  pub is_fork : IsOutermost m by start cs before left right rest fork_line with_line end_line at
  pub upto : List Command
  pub here : Command
  pub past : List Command
  pub line_is : here.line ≡ line
  pub not_covered :
      ((left ≡ upto ++ here ∷ past) × ¬ CoversLeft m (state_after m by start before).book left upto here)
      ⊎ ((right ≡ upto ++ here ∷ past) × ¬ CoversRight m (state_after m by start before).book left upto here)

-- Where the frames held are at least the need, no account outside forks and no outermost fork is short, whatever set of
-- lines is refused inside forks.
abbrev pub NeedIsEnough : Type 0
NeedIsEnough =
    (m : Machine) (hold : ℕ) (body : List Command) (lines : ℕ → Bool) → IsTrue (is_size m.layout 0) → hold < m.frames → need m body ≤ hold →
    ((before rest : List Command) (c : Command) → body ≡ before ++ c ∷ rest →
    let s = state_after m (InForks lines) (at_start (new_book m.layout m.levels)) before in
    linked_count m.levels s.book + need m (c ∷ rest) ≤ m.frames)

-- where a run stands behind the commands `before`
abbrev pub stands_behind : Machine → (lines : ℕ → Bool) → (before : List Command) → State
stands_behind m lines before = state_after m (InForks lines) (at_start (new_book m.layout m.levels)) before

-- so no map is short by the account, outside forks or inside, and no fork is short
pub record NothingIsShort (m : Machine) (body : List Command) (lines : ℕ → Bool) : Type 0 where
  pub maps : (before rest : List Command) (line va pa len : ℕ) (prot : Prot) →
      body ≡ before ++ record { line = line; what = Map va pa len prot } ∷ rest →
      map_refusal m.layout (stands_behind m lines before).book va pa len ≡ None →
      lacks_frames m (stands_behind m lines before).book va pa len prot ≡ false
  pub forks : (before left right rest : List Command) (line at middle last : ℕ) →
      body ≡ before ++ fork_lines line at middle last left right rest →
      ¬ is_short_fork m (stands_behind m lines before).book left right

abbrev pub HoldIsEnough : Type 0
HoldIsEnough =
    (m : Machine) (hold : ℕ) (body : List Command) (lines : ℕ → Bool) → IsTrue (is_size m.layout 0) → hold < m.frames → need m body ≤ hold →
    NothingIsShort m body lines

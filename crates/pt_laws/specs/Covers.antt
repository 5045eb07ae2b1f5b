-- What the calls of a branch leave of its book and of the count of its purse, and which of its maps can lack frames then.
use Rattle.std.specs.Prelude.{◌≡◌, ℕ, ◌+◌, ◌-◌, ◌/◌, ◌^◌, ◌≤◌, ◌<◌, min, true, List, [], ◌∷◌, ◌++◌, length, filter, None, IsTrue}
use Rattle.std.specs.List.{list_any}
use Rattle.pt_model.specs.declared.block.Prot.{Prot}
use Rattle.pt_model.specs.declared.position.Position.{Position}
use Rattle.pt_model.specs.declared.command.What.{What}
use Rattle.pt_model.specs.declared.command.What.TheVariants.{Map, Unmap, Lookup, Dump}
use Rattle.pt_model.specs.declared.command.Command.{Command}
use Rattle.pt_model.specs.declared.reply.MapAnswer.{MapAnswer}
use Rattle.pt_model.specs.declared.reply.MapAnswer.TheVariants as mapping
use Rattle.pt_model.specs.declared.reply.LookupAnswer.{LookupAnswer}
use Rattle.pt_model.specs.Layout.{end_of, is_size}
use Rattle.pt_model.specs.Pages.{page_under}
use Rattle.pt_model.specs.Tiling.{tiling}
use Rattle.pt_model.specs.Tables.{starting_top}
use Rattle.pt_model.specs.Book.{Book, is_linked, map_refusal, mapped, missing, table_lies_in}
use Rattle.pt_model.specs.Run.{Machine, is_frames}
use Rattle.pt_model.specs.declared.reply.UnmapAnswer.{UnmapAnswer}
use Rattle.pt_model.specs.declared.reply.UnmapAnswer.TheVariants as unmapping
use Rattle.pt_model.specs.declared.reply.ForkAnswer.{ForkAnswer}
use Rattle.pt_model.specs.declared.reply.Dump as dumps
use Rattle.pt_model.specs.declared.reply.Answer.{Answer}
use Rattle.pt_model.specs.declared.reply.Answer.TheVariants as answer
use Rattle.pt_model.specs.declared.reply.Reply.{Reply}
use Rattle.pt_model.specs.Unmap.{unmapped}
use Rattle.pt_laws.specs.Need.{need, used_by, use_of, share_at, HasNoFork, fork_lines, CoversLeft, CoversRight}

-- where a holder stands: its book, and how many frames its purse has
pub record Stand : Type 0 where
  pub book : Book
  pub purse : ℕ

-- One call.

-- the positions that a map needs and that the book doesn't have
abbrev pub lacking_at : Machine → Book → (va pa len : ℕ) → Prot → List Position
lacking_at m b va pa len prot =
    missing m.layout m.levels b (page_under m.layout va) (len / 2 ^ m.layout.granule) (pa / 2 ^ m.layout.granule) prot

-- the tables of the book that lie in a block of a map's tiling
abbrev pub replaced : Machine → Book → (va pa len : ℕ) → Prot → List Position
replaced m b va pa len prot =
    filter
    (λ p. list_any (λ x. table_lies_in m.layout x.first (end_of x) p)
    (tiling m.layout prot (page_under m.layout va) (pa / 2 ^ m.layout.granule) (len / 2 ^ m.layout.granule)))
    b.tables

-- the tables of the book that lie in an unmapped range
abbrev pub cleared : Machine → Book → (va len : ℕ) → List Position
cleared m b va len =
    filter (λ p. table_lies_in m.layout (page_under m.layout va) (page_under m.layout va + len / 2 ^ m.layout.granule) p) b.tables

-- A map at Ok: the purse is the old one and the frames drawn and unlinked, without those linked. A frame was unlinked for
-- each table that the book loses, and linked for positions that it lacked, at most one more than all frames.
pub record LeavesMapped (m : Machine) (va pa len : ℕ) (prot : Prot) (s s' : Stand) : Type 0 where
  pub admitted : map_refusal m.layout s.book va pa len ≡ None
  pub low : starting_top m.levels ≤ s.book.top
  pub book : s'.book ≡ mapped m.layout m.levels s.book (page_under m.layout va) (len / 2 ^ m.layout.granule) (pa / 2 ^ m.layout.granule) prot
  pub drawn : ℕ
  pub unlinked : ℕ
  pub linked : ℕ
  pub purse : unlinked + drawn + s.purse ≡ linked + s'.purse
  pub freed : length (replaced m s.book va pa len prot) ≤ unlinked
  pub few : linked ≤ length (lacking_at m s.book va pa len prot)
  pub capped : linked ≤ m.frames + 1

-- A map that lacks frames: the purse is the old one and the frames drawn, and is less than what was found absent, which is
-- at most what the book lacks and one more than all frames.
pub record LeavesWanting (m : Machine) (va pa len : ℕ) (prot : Prot) (s s' : Stand) : Type 0 where
  pub admitted : map_refusal m.layout s.book va pa len ≡ None
  pub low : starting_top m.levels ≤ s.book.top
  pub book : s'.book ≡ s.book
  pub drawn : ℕ
  pub absent : ℕ
  pub purse : s'.purse ≡ drawn + s.purse
  pub more : s'.purse < absent
  pub few : absent ≤ length (lacking_at m s.book va pa len prot)
  pub capped : absent ≤ m.frames + 1

pub record Stays (s s' : Stand) : Type 0 where
  pub book : s'.book ≡ s.book
  pub purse : s'.purse ≡ s.purse

abbrev pub LeavesMap : Machine → (va pa len : ℕ) → Prot → (s s' : Stand) → MapAnswer → Type 0
LeavesMap m va pa len prot s s' mapping.Mapped = LeavesMapped m va pa len prot s s'
LeavesMap m va pa len prot s s' mapping.Frames = LeavesWanting m va pa len prot s s'
LeavesMap m va pa len prot s s' _ = Stays s s'

-- an unmap at Ok: a frame comes to the purse for each table that the book loses
pub record LeavesUnmapped (m : Machine) (va len : ℕ) (s s' : Stand) : Type 0 where
  pub book : s'.book ≡ unmapped m.layout s.book (page_under m.layout va) (len / 2 ^ m.layout.granule)
  pub unlinked : ℕ
  pub purse : s'.purse ≡ unlinked + s.purse
  pub freed : length (cleared m s.book va len) ≤ unlinked

abbrev pub LeavesUnmap : Machine → (va len : ℕ) → (s s' : Stand) → UnmapAnswer → Type 0
LeavesUnmap m va len s s' (unmapping.Unmapped pages) = LeavesUnmapped m va len s s'
LeavesUnmap m va len s s' _ = Stays s s'

-- what a call of a branch leaves, by its answer
pub data Leaves (m : Machine) : What → (s s' : Stand) → Answer → Type 0 where
  map : (va pa len : ℕ) (prot : Prot) (s s' : Stand) (a : MapAnswer) → LeavesMap m va pa len prot s s' a →
      Leaves m (Map va pa len prot) s s' (answer.Map a)
  unmap : (va len : ℕ) (s s' : Stand) (a : UnmapAnswer) → LeavesUnmap m va len s s' a → Leaves m (Unmap va len) s s' (answer.Unmap a)
  lookup : (va : ℕ) (s s' : Stand) (a : LookupAnswer) → Stays s s' → Leaves m (Lookup va) s s' (answer.Lookup a)
  dump : (s s' : Stand) (a : dumps.Dump) → Stays s s' → Leaves m Dump s s' (answer.Dump a)

-- A branch.

-- a fork inside a branch: so many frames are there after the draw, and the left branch is given those of its need, or all
pub record IsDealt (m : Machine) (left : List Command) (held : ℕ) (l r : Stand) : Type 0 where
  pub first : l.purse ≡ min (need m left) held
  pub second : r.purse ≡ held - l.purse

-- What a run of commands inside forks leaves, with its replies. A fork that is refused leaves all as it was; else frames are
-- drawn and dealt, and what the branches leave comes together.
pub data Runs (m : Machine) : List Command → (s s' : Stand) → List Reply → Type 0 where
  nothing : (s : Stand) → Runs m [] s s []
  call : (line : ℕ) (what : What) (cs : List Command) (s s' s'' : Stand) (a : Answer) (rs : List Reply) →
      Leaves m what s s' a → Runs m cs s' s'' rs →
      Runs m (record { line = line; what = what } ∷ cs) s s'' (record { line = line; answer = a } ∷ rs)
  past : (line at middle last : ℕ) (left right cs : List Command) (s s' s'' : Stand) (a : ForkAnswer) (rs : List Reply) →
      Stays s s' → Runs m cs s' s'' rs →
      Runs m (fork_lines line at middle last left right cs) s s'' (record { line = line; answer = answer.Fork a } ∷ rs)
  fork : (line at middle last : ℕ) (left right cs : List Command) (s l l' r r' j s'' : Stand) (drawn : ℕ) (a : ForkAnswer)
      (ls rs qs : List Reply) →
      IsDealt m left (drawn + s.purse) l r → Runs m left l l' ls → Runs m right r r' rs → j.purse ≡ l'.purse + r'.purse →
      Runs m cs j s'' qs →
      Runs m (fork_lines line at middle last left right cs) s s'' (record { line = line; answer = answer.Fork a } ∷ (ls ++ (rs ++ qs)))

-- The two invariants, of a run that began with `start` frames in the purse and has come through the commands `done`.

-- by need: what the purse lost is at most the need
abbrev pub KeepsNeed : Machine → (start : ℕ) → (done : List Command) → Stand → Type 0
KeepsNeed m start done s = start ≤ s.purse + need m done

-- by use: what the purse lost is at most the used positions that are linked now, without the starting top
abbrev pub KeepsUse : Machine → (start : ℕ) → (done : List Command) → Stand → Type 0
KeepsUse m start done s = start ≤ s.purse + (length (filter (λ p. is_linked m.levels s.book p) (used_by m done)) - 1)

-- A line of commands that began with so many frames: the need of the maps up to it is more, and where no fork stands
-- before it, their use is more too.
pub record Wants (m : Machine) (start : ℕ) (cs : List Command) (line : ℕ) : Type 0 where
  pub upto : List Command
  pub here : Command
  pub past : List Command
  pub whole : cs ≡ upto ++ here ∷ past
  pub line_is : here.line ≡ line
  pub by_need : start < need m (upto ++ here ∷ [])
  pub by_use : HasNoFork upto → start < use_of m (upto ++ here ∷ [])

-- the replies that are `map frames` are at such lines
abbrev pub LackOnly : (ℕ → Type 0) → List Reply → Type 0
LackOnly IsOne [] = Unit {0}
LackOnly IsOne (r ∷ rs) = (is_frames r.answer ≡ true → IsOne r.line) × LackOnly IsOne rs

-- What a loop keeps: a run that began with so many frames in the purse has come through `done`, to here, with these replies.
pub record SoFar (m : Machine) (start : ℕ) (done : List Command) (s : Stand) (rs : List Reply) : Type 0 where
  pub by_need : KeepsNeed m start done s
  pub by_use : HasNoFork done → KeepsUse m start done s
  pub lacks : LackOnly (Wants m start done) rs

-- That it holds at the start, and that each call and each fork keeps it.
pub record KeepsSoFar (m : Machine) : Type 0 where
  pub start : (s : Stand) → SoFar m s.purse [] s []
  pub call : (start line : ℕ) (done : List Command) (what : What) (s s' : Stand) (a : Answer) (rs : List Reply) →
      SoFar m start done s rs → Leaves m what s s' a →
      SoFar m start (done ++ record { line = line; what = what } ∷ []) s' (rs ++ record { line = line; answer = a } ∷ [])
  pub past : (start line at middle last : ℕ) (done left right : List Command) (s s' : Stand) (a : ForkAnswer) (rs : List Reply) →
      SoFar m start done s rs → Stays s s' →
      SoFar m start (done ++ fork_lines line at middle last left right []) s' (rs ++ record { line = line; answer = answer.Fork a } ∷ [])
  pub fork : (start line at middle last drawn : ℕ) (done left right : List Command) (s l l' r r' j : Stand) (a : ForkAnswer) (rs ls ts : List Reply) →
      SoFar m start done s rs → IsDealt m left (drawn + s.purse) l r → SoFar m l.purse left l' ls → SoFar m r.purse right r' ts →
      j.purse ≡ l'.purse + r'.purse →
      SoFar m start (done ++ fork_lines line at middle last left right []) j (rs ++ record { line = line; answer = answer.Fork a } ∷ (ls ++ ts))

abbrev pub EachKeepsSoFar : Type 0
EachKeepsSoFar = (m : Machine) → IsTrue (is_size m.layout 0) → KeepsSoFar m

-- What a run leaves: it keeps the invariant by need, and its maps lack frames only at lines that need and use more than the purse
-- had at the start.
pub record PurseLasts (m : Machine) (cs : List Command) (s s' : Stand) (rs : List Reply) : Type 0 where
  pub keeps : KeepsNeed m s.purse cs s'
  pub lacks : LackOnly (Wants m s.purse cs) rs

abbrev pub PursesLast : Type 0
PursesLast =
    (m : Machine) (cs : List Command) (s s' : Stand) (rs : List Reply) → IsTrue (is_size m.layout 0) → Runs m cs s s' rs →
    PurseLasts m cs s s' rs

-- An outermost fork: after the draw the purse holds the need of both branches, or all that isn't linked.
pub record IsDealtWhole (m : Machine) (b : Book) (left right : List Command) (l r : Stand) : Type 0 where
  pub held : ℕ
  pub enough : min (need m left + need m right) (share_at m b) ≤ held
  pub dealt : IsDealt m left held l r

-- a line of the left branch, or of the right one, that the fork doesn't cover
pub record LeftUncovered (m : Machine) (b : Book) (left : List Command) (line : ℕ) : Type 0 where
  pub upto : List Command
  pub here : Command
  pub past : List Command
  pub whole : left ≡ upto ++ here ∷ past
  pub line_is : here.line ≡ line
  pub not_covered : ¬ CoversLeft m b left upto here

pub record RightUncovered (m : Machine) (b : Book) (left right : List Command) (line : ℕ) : Type 0 where
  pub upto : List Command
  pub here : Command
  pub past : List Command
  pub whole : right ≡ upto ++ here ∷ past
  pub line_is : here.line ≡ line
  pub not_covered : ¬ CoversRight m b left upto here

abbrev pub ForksCover : Type 0
ForksCover =
    (m : Machine) (b : Book) (left right : List Command) (l r : Stand) (ls rs : List Reply) →
    IsDealtWhole m b left right l r → LackOnly (Wants m l.purse left) ls → LackOnly (Wants m r.purse right) rs →
    LackOnly (LeftUncovered m b left) ls × LackOnly (RightUncovered m b left right) rs

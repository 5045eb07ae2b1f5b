-- A run over a part of a space in its middle.
use Rattle.std.specs.Prelude.{◌≡◌, ℕ, ◌+◌, ◌≤◌, ◌<◌, ◌^◌, min, Bool, true, false, not, List, [], ◌∷◌, ◌++◌, length, take, drop, Result, Ok, Vec}
use Rattle.std.specs.Global.{Global}
use Rattle.pt_model.specs.declared.command.Command.{Command}
use Rattle.pt_model.specs.declared.command.What.{What}
use Rattle.pt_model.specs.declared.reply.Answer.{Answer}
use Rattle.pt_model.specs.declared.reply.Reply.{Reply}
use Rattle.pt_model.specs.Run.{Machine, ByLines, InForks, at_start, replies_from, state_after, lacked_lines}
use Rattle.pt_num.specs.declared.Memory.{Memory}
use Rattle.pt_script.specs.Grammar.{IsBody}
use Rattle.pt_script.specs.Numbered.{body_lines}
use Rattle.pt_laws.specs.Goes.{Goes}
use Rattle.pt_laws.specs.Need.{need, IsUncovered}
use Rattle.pt_laws.specs.OneText.{RunsWhole}
use Rattle.pt_laws.specs.Lines.{CommandsRise, Reads}
use Rattle.pt_laws.specs.Covers.{Stand, SoFar, PurseLasts}
use Rattle.pt_forks.specs.Running.{AreTold}
use Rattle.pt_beside.specs.Places.{Place, StaysIn, stand, is_whole, HasGathered, IsSplit, both}

-- the commands are a body on lines that rise, inside forks or outside
pub record IsBodyIn (inside : Bool) (commands : List Command) : Type 0 where
  pub room : ℕ
  pub is_body : IsBody inside room (body_lines commands)
  pub few_nested : room ≤ 16
  pub rises : CommandsRise commands
  pub few : length commands < 2 ^ 32

-- a body that stands outside forks where the part is the whole space, and inside them where it is not
abbrev pub IsBodyOf : Place → List Command → Type 0
IsBodyOf p commands = IsBodyIn (not (is_whole p)) commands

-- the replies are to commands, in their order, at most one to each
pub data AreOf : List Command → List Reply → Type 0 where
  nothing : AreOf [] []
  answered : (line : ℕ) (what : What) (a : Answer) (cs : List Command) (rs : List Reply) → AreOf cs rs →
      AreOf (record { line = line; what = what } ∷ cs) (record { line = line; answer = a } ∷ rs)
  silent : (c : Command) (cs : List Command) (rs : List Reply) → AreOf cs rs → AreOf (c ∷ cs) rs

-- what a branch keeps of its purse, however many commands were run before these
abbrev pub KeepsOn : Machine → (s s' : Stand) → List Command → List Reply → Type 0
KeepsOn m s s' commands replies =
    (start : ℕ) (done : List Command) (said : List Reply) → SoFar m start done s said → SoFar m start (done ++ commands) s' (said ++ replies)

-- The machine's run over the whole space, where the account decides of frames outside forks and a set of lines inside them.
pub record IsRunByLines (m : Machine) (lines : ℕ → Bool) (s s' : Stand) (commands : List Command) (replies inside : List Reply) : Type 0 where
  pub runs : RunsWhole m (InForks lines) commands s s' replies inside
  pub replies_are : replies ≡ replies_from m (InForks lines) (at_start s.book) commands
  pub book_is : state_after m (InForks lines) (at_start s.book) commands ≡ at_start s'.book

-- the same by every set that reads the replies inside forks
pub record RanWhole (m : Machine) (s s' : Stand) (commands : List Command) (replies : List Reply) : Type 0 where
  pub inside : List Reply
  pub inside_of : AreOf commands inside
  pub goes : (lines : ℕ → Bool) → Reads lines inside → IsRunByLines m lines s s' commands replies inside

-- The commands are run from one place to another, with these replies, each of which has a text. By every set of lines that
-- reads the replies the machine comes to the same.
pub record Ran (IsTold : Answer → Type 0) (p q : Place) (commands : List Command) (replies : List Reply) : Type 0 where
  pub are_of : AreOf commands replies
  pub told : AreTold IsTold replies
  pub goes : (lines : ℕ → Bool) → Reads lines replies → Goes p.machine (ByLines lines) p.book q.book commands [] [] replies
  pub keeps : is_whole p ≡ false → KeepsOn p.machine (stand p) (stand q) commands replies
  pub whole : is_whole p ≡ true → RanWhole p.machine (stand p) (stand q) commands replies

-- a call has an answer, which is put as the reply of its one line behind the others
pub record IsNoted (line : ℕ) (answered : Result Answer Memory) (old new : List Reply) (count : ℕ) : Type 0 where
  pub one : count ≡ 1
  pub answer : Answer
  pub answer_is : answered ≡ Ok answer
  pub put : new ≡ old ++ record { line = line; answer = answer } ∷ []

-- the first `count` commands are run, their replies put behind the others, and what is left is a body
pub record HasPassed (IsTold : Answer → Type 0) (p q : Place) (commands : List Command) (old new : List Reply) (count : ℕ) : Type 0 where
  pub some : 1 ≤ count
  pub within : count ≤ length commands
  pub added : List Reply
  pub put : new ≡ old ++ added
  pub ran : Ran IsTold p q (take count commands) added
  pub rest : IsBodyOf p (drop count commands)

-- both branches have replies, and these are put behind the others
pub record AreMerged (left right : Result (Vec Reply Global) Memory) (old new : List Reply) : Type 0 where
  pub one : Vec Reply Global
  pub two : Vec Reply Global
  pub left_is : left ≡ Ok one
  pub right_is : right ≡ Ok two
  pub put : new ≡ old ++ (one.items ++ two.items)

-- The two branches of a fork are run on two parts, which then are one again. The left one has the frames of its need, or all
-- that were gathered.
pub record HasForked (IsTold : Answer → Type 0) (p q : Place) (at : ℕ) (left right : List Command) (old new : List Reply) : Type 0 where
  pub gathered : Place
  pub held : ℕ
  pub gathers : HasGathered p gathered (need p.machine left + need p.machine right) held
  pub left_part : Place
  pub right_part : Place
  pub splits : IsSplit gathered at (min (need p.machine left) held) left_part right_part
  pub left_end : Place
  pub right_end : Place
  pub left_replies : List Reply
  pub right_replies : List Reply
  pub left_ran : Ran IsTold left_part left_end left left_replies
  pub right_ran : Ran IsTold right_part right_end right right_replies
  pub left_stays : StaysIn left_part left_end
  pub right_stays : StaysIn right_part right_end
  pub joins : q ≡ both left_end right_end
  pub put : new ≡ old ++ (left_replies ++ right_replies)

-- over the whole space, by the lines that are answered so inside forks; each of these stands in a fork that doesn't cover it
pub record IsWholeRun (m : Machine) (s s' : Stand) (commands : List Command) (replies : List Reply) : Type 0 where
  pub inside : List Reply
  pub is_run : IsRunByLines m (lacked_lines inside) s s' commands replies inside
  pub uncovered : (line : ℕ) → lacked_lines inside line ≡ true → IsUncovered m (InForks (lacked_lines inside)) (at_start s.book) commands line

-- The commands are run: each reply has a text, and the replies and the book are the machine's, where maps lack frames on the
-- lines that are answered so. A part of the space loses from its purse at most the need of the commands, and lacks frames
-- only on lines that want more than it had.
pub record IsRun (IsTold : Answer → Type 0) (p q : Place) (commands : List Command) (replies : List Reply) : Type 0 where
  pub told : AreTold IsTold replies
  pub goes : Goes p.machine (ByLines (lacked_lines replies)) p.book q.book commands [] [] replies
  pub lasts : is_whole p ≡ false → PurseLasts p.machine commands (stand p) (stand q) replies
  pub whole : is_whole p ≡ true → IsWholeRun p.machine (stand p) (stand q) commands replies

-- A run over one owner in its middle.
use Rattle.std.specs.Prelude.{◌≡◌, ℕ, ◌+◌, ◌≤◌, Bool, List, [], ◌∷◌, length, drop, find, None}
use Rattle.pt_model.specs.declared.command.Command.{Command}
use Rattle.pt_model.specs.declared.command.What.TheVariants.{Fork}
use Rattle.pt_model.specs.declared.reply.Answer.{Answer}
use Rattle.pt_model.specs.declared.reply.Reply.{Reply}
use Rattle.pt_model.specs.Pages.{page_under}
use Rattle.pt_model.specs.Book.{Book, span_end}
use Rattle.pt_model.specs.Cuts.{crosses, spanning}
use Rattle.pt_model.specs.Run.{Opened, ByAccount}
use Rattle.pt_script.specs.Grammar.{IsBody}
use Rattle.pt_script.specs.Numbered.{body_lines}
use Rattle.pt_laws.specs.Goes.{Goes}
use Rattle.pt_script.specs.declared.line.Side.{Side}
use Rattle.pt_forks.specs.Places.{Place, side_book}

-- the commands are a body, with room for the forks that they nest
pub record IsOneBody (commands : List Command) (cuts : List Opened) : Type 0 where
  pub inside : Bool
  pub room : ℕ
  pub is_body : IsBody inside room (body_lines commands)
  pub few : length cuts + room ≤ 16

-- the commands begin with a fork
abbrev pub IsFront : List Command → (line at : ℕ) → Type 0
IsFront commands line at = (rest : List Command) × (commands ≡ record { line = line; what = Fork at } ∷ rest)

-- from one place the run of commands comes to another, where the commands `later` are left, and the replies grow
abbrev pub Comes : (p q : Place) → (commands later : List Command) → (old new : List Reply) → Type 0
Comes p q commands later old new = Goes p.machine ByAccount p.book q.book commands later old new

-- the commands are run
abbrev pub IsRun : (p q : Place) → List Command → (old new : List Reply) → Type 0
IsRun p q commands old new = Comes p q commands [] old new

-- the first `count` lines are run, and what is left is a body
pub record HasPassed (p q : Place) (commands : List Command) (old new : List Reply) (count : ℕ) : Type 0 where
  pub some : 1 ≤ count
  pub within : count ≤ length commands
  pub comes : Comes p q commands (drop count commands) old new
  pub is_rest : IsOneBody (drop count commands) p.cuts

-- a branch is run in its part of the span, and then the span is that from before; no block crosses the cut
pub record HasRun (p q : Place) (at : ℕ) (side : Side) (commands : List Command) (old new : List Reply) : Type 0 where
  pub inner : Book
  pub goes : Goes p.machine ByAccount (side_book p at side) inner commands [] old new
  pub widened : q.book ≡ spanning inner p.book.first (span_end p.book)
  pub uncut : find (crosses (page_under p.machine.layout at)) inner.blocks ≡ None

-- each reply has an answer that has a text
abbrev pub AreTold : (Answer → Type 0) → List Reply → Type 0
AreTold IsTold [] = Unit {0}
AreTold IsTold (r ∷ rs) = IsTold r.answer × AreTold IsTold rs

-- and so have the replies that come
abbrev pub AddsTold : (Answer → Type 0) → (old new : List Reply) → Type 0
AddsTold IsTold old new = AreTold IsTold old → AreTold IsTold new

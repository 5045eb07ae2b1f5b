-- The grammar of scripts: by productions, and by a table of what may come next.
use Rattle.std.specs.Prelude.{◌≡◌, ℕ, suc, ◌+◌, ◌≤◌, ◌<◌, Bool, true, false, List, [], ◌∷◌, ◌++◌, ◌&&◌, length, Option, Some, None, ◌↔◌, nat_le, nat_lt, count_by, option_and_then, IsTrue, IsSome, IsNone, if◌then◌else◌}
use Rattle.pt_model.specs.declared.block.Prot.{Prot}
use Rattle.pt_model.specs.declared.command.Name.{Name}
use Rattle.pt_model.specs.declared.command.Name.TheVariants.{AmdV1}
use Rattle.pt_script.specs.declared.line.Side.{Side}
use Rattle.pt_script.specs.declared.line.Side.TheVariants.{Left, Right}
use Rattle.pt_script.specs.declared.line.Keyword.{Keyword}
use Rattle.pt_script.specs.declared.line.Keyword.TheVariants.{Format, Frames, Hold, Map, Unmap, Lookup, Dump, Release, Fork, With, End, Close, Walk, Census}
use Rattle.pt_script.specs.declared.line.Line.{Line}
use Rattle.pt_script.specs.declared.line.Line.TheVariants as form
use Rattle.pt_script.specs.Lines.{keyword_of, is_command, is_dump, frame_limit}

-- The productions.

-- body = *command. It stands inside a fork or outside every fork, and its forks are nested at most `room` deep.
pub data IsBody : Bool → ℕ → List Line → Type 0 where
  nothing : (inside : Bool) (room : ℕ) → IsBody inside room []
  map : (inside : Bool) (room va pa len : ℕ) (prot : Prot) (ls : List Line) → IsBody inside room ls → IsBody inside room (form.Map va pa len prot ∷ ls)
  unmap : (inside : Bool) (room va len : ℕ) (ls : List Line) → IsBody inside room ls → IsBody inside room (form.Unmap va len ∷ ls)
  lookup : (inside : Bool) (room va : ℕ) (ls : List Line) → IsBody inside room ls → IsBody inside room (form.Lookup va ∷ ls)
  dump : (inside : Bool) (room : ℕ) (ls : List Line) → IsBody inside room ls → IsBody inside room (form.Dump ∷ ls)
  release : (room : ℕ) (ls : List Line) → IsBody false room ls → IsBody false room (form.Release ∷ ls)
  fork : (inside : Bool) (room at : ℕ) (left right ls : List Line) → IsBody true room left → IsBody true room right → IsBody inside (suc room) ls
      → IsBody inside (suc room) (form.Fork at ∷ left ++ form.With ∷ right ++ form.End ∷ ls)

-- tail = *( walk | census )
pub data IsTail : List Line → Type 0 where
  nothing : IsTail []
  walk : (va : ℕ) (ls : List Line) → IsTail ls → IsTail (form.Walk va ∷ ls)
  census : (ls : List Line) → IsTail ls → IsTail (form.Census ∷ ls)

-- script = format frames hold body close tail end, within the limits
pub record IsScript (ls : List Line) : Type 0 where
  pub format : Name
  pub levels : ℕ
  pub frames : ℕ
  pub hold : ℕ
  pub body : List Line
  pub tail : List Line
  pub whole : ls ≡ form.Format format levels ∷ form.Frames frames ∷ form.Hold hold ∷ body ++ form.Close ∷ tail ++ form.End ∷ []
  pub is_body : IsBody false 16 body
  pub is_tail : IsTail tail
  pub some_levels : format ≡ AmdV1 → 3 ≤ levels
  pub few_levels : format ≡ AmdV1 → levels ≤ 6
  pub some_frames : 1 ≤ frames
  pub few_frames : frames ≤ frame_limit format
  pub few_held : hold < frames
  pub few_commands : count_by is_command ls ≤ 65536
  pub few_dumps : count_by is_dump ls ≤ 256

-- What may come next.

-- A place is what the next line stands at. Behind the format line it has the format, behind the frames line their
-- number, and in the body the open forks, innermost first, each with the branch that is being read.
pub data Place : Type 0 where
  AtFormat : Place
  AtFrames : Name → Place
  AtHold : ℕ → Place
  InBody : List Side → Place
  InTail : Place
  Over : Place

-- whether a line with this first word may stand at a place
abbrev pub may_stand : Keyword → Place → Bool
may_stand Format AtFormat = true
may_stand Frames (AtFrames format) = true
may_stand Hold (AtHold frames) = true
may_stand Map (InBody forks) = true
may_stand Unmap (InBody forks) = true
may_stand Lookup (InBody forks) = true
may_stand Dump (InBody forks) = true
may_stand Release (InBody []) = true
may_stand Fork (InBody forks) = true
may_stand With (InBody (Left ∷ forks)) = true
may_stand End (InBody (Right ∷ forks)) = true
may_stand Close (InBody []) = true
may_stand Walk InTail = true
may_stand Census InTail = true
may_stand End InTail = true
may_stand _ _ = false

-- the place behind a line that may stand
abbrev pub behind : Line → Place → Place
behind (form.Format name levels) AtFormat = AtFrames name
behind (form.Frames frames) (AtFrames format) = AtHold frames
behind (form.Hold hold) (AtHold frames) = InBody []
behind (form.Fork at) (InBody forks) = InBody (Left ∷ forks)
behind form.With (InBody (side ∷ forks)) = InBody (Right ∷ forks)
behind form.End (InBody (side ∷ forks)) = InBody forks
behind form.Close (InBody forks) = InTail
behind form.End InTail = Over
behind _ place = place

-- Limits.

abbrev pub are_legal_levels : Name → ℕ → Bool
are_legal_levels AmdV1 levels = nat_le 3 levels && nat_le levels 6
are_legal_levels name levels = true

-- whether the numbers of a header's line and the depth of a fork are within their limits
abbrev pub fits : Line → Place → Bool
fits (form.Format name levels) AtFormat = are_legal_levels name levels
fits (form.Frames frames) (AtFrames format) = nat_le 1 frames && nat_le frames (frame_limit format)
fits (form.Hold hold) (AtHold frames) = nat_lt hold frames
fits (form.Fork at) (InBody forks) = nat_lt (length forks) 16
fits _ _ = true

abbrev pub counted : Bool → ℕ → ℕ
counted true n = n + 1
counted false n = n

-- how far a script has come, with the command lines and the dumps so far
pub record State : Type 0 where
  pub place : Place
  pub commands : ℕ
  pub dumps : ℕ

abbrev pub start : State
start = record { place = AtFormat; commands = 0; dumps = 0 }

-- the state behind a line
abbrev pub moved : Line → State → State
moved l s = record { place = behind l s.place; commands = counted (is_command l) s.commands; dumps = counted (is_dump l) s.dumps }

-- whether a line is within the limits: with it there are at most 65,536 command lines and 256 dumps
abbrev pub is_within : Line → State → Bool
is_within l s = fits l s.place && nat_le (moved l s).commands 65536 && nat_le (moved l s).dumps 256

abbrev pub next : Line → State → Option State
next l s = if may_stand (keyword_of l) s.place && is_within l s then Some (moved l s) else None

abbrev pub after : State → List Line → Option State
after s [] = Some s
after s (l ∷ ls) = option_and_then (λ t. after t ls) (next l s)

abbrev pub is_over : Place → Bool
is_over Over = true
is_over _ = false

abbrev pub ends_over : Option State → Bool
ends_over None = false
ends_over (Some s) = is_over s.place

-- whether the lines, taken in turn, come to the end of a script
abbrev pub is_taken : List Line → Bool
is_taken ls = ends_over (after start ls)

-- Why lines are refused at one of them: the lines before it begin a script, and with it they don't.
pub record IsFirstRefused (ls : List Line) (l : Line) : Type 0 where
  pub before : (rest : List Line) × IsScript (ls ++ rest)
  pub refused : (rest : List Line) → ¬ IsScript ((ls ++ l ∷ []) ++ rest)

-- The lines that the table takes to the end are those that the productions make, and the first line at which it
-- stops is the first that no script has after the lines before it.
pub record IsTheGrammar : Type 0 where
  pub scripts : (ls : List Line) → IsTrue (is_taken ls) ↔ IsScript ls
  pub stops : (ls : List Line) (l : Line) → IsSome (after start ls) → IsNone (after start (ls ++ l ∷ [])) → IsFirstRefused ls l

-- The place and the state that the parser's fields stand for: the forks are kept outermost first.
use Rattle.std.specs.Prelude.{ℕ, ◌+◌, Bool, true, false, List, [], ◌∷◌, reverse}
use Rattle.pt_script.specs.declared.line.Side.{Side}
use Rattle.pt_script.specs.declared.line.Side.TheVariants.{Left, Right}
use Rattle.pt_script.specs.declared.line.Line.{Line}
use Rattle.pt_script.specs.declared.line.Line.TheVariants as form
use Rattle.pt_script.specs.declared.stage.Stage.{Stage}
use Rattle.pt_script.specs.declared.stage.Stage.TheVariants.{Format, Frames, Hold, Body, Tail, Over}
use Rattle.pt_script.specs.Grammar as grammar
use Rattle.pt_script.specs.Grammar.{Place, AtFormat, AtFrames, AtHold, InBody, InTail, State}

abbrev pub is_body : Stage → Bool
is_body (Body header) = true
is_body _ = false

abbrev pub place_of : Stage → List Side → Place
place_of Format forks = AtFormat
place_of (Frames format levels) forks = AtFrames format
place_of (Hold format levels frames) forks = AtHold frames
place_of (Body header) forks = InBody (reverse forks)
place_of (Tail header) forks = InTail
place_of (Over header) forks = grammar.Over

abbrev pub state_of : Stage → List Side → (commands dumps : ℕ) → State
state_of stage forks commands dumps = record { place = place_of stage forks; commands = commands; dumps = dumps }

-- the part behind a line that may stand
abbrev pub stage_behind : Line → Stage → Stage
stage_behind (form.Format name levels) Format = Frames name levels
stage_behind (form.Frames frames) (Frames format levels) = Hold format levels frames
stage_behind (form.Hold hold) (Hold format levels frames) = Body (record { format = format; levels = levels; frames = frames; hold = hold })
stage_behind form.Close (Body header) = Tail header
stage_behind form.End (Tail header) = Over header
stage_behind _ stage = stage

-- the `with` and `end` lines that open forks still want
abbrev pub owed : List Side → ℕ
owed [] = 0
owed (Left ∷ forks) = 2 + owed forks
owed (Right ∷ forks) = 1 + owed forks

-- the lines so far that are neither a command's nor part of a fork
abbrev pub frame_lines : Stage → ℕ
frame_lines Format = 0
frame_lines (Frames format levels) = 1
frame_lines (Hold format levels frames) = 2
frame_lines (Body header) = 3
frame_lines (Tail header) = 4
frame_lines (Over header) = 5

-- A script that is being read.
use Rattle.std.specs.Prelude.{◌≡◌, ℕ, Bool, true, false, List, [], ◌∷◌, ◌++◌, length, Option, Some, None, IsTrue}
use Rattle.pt_model.specs.declared.command.What.{What}
use Rattle.pt_model.specs.declared.command.What.TheVariants as what
use Rattle.pt_model.specs.declared.command.Command.{Command}
use Rattle.pt_model.specs.declared.command.AskWhat.{AskWhat}
use Rattle.pt_model.specs.declared.command.AskWhat.TheVariants as asked
use Rattle.pt_model.specs.declared.command.Ask.{Ask}
use Rattle.pt_script.specs.declared.line.Line.{Line}
use Rattle.pt_script.specs.declared.line.Line.TheVariants as form
use Rattle.pt_script.specs.declared.stage.Stage.{Stage}
use Rattle.pt_script.specs.declared.stage.Stage.TheVariants.{Format, Frames, Hold, Body, Tail, Over}
use Rattle.pt_script.specs.declared.error.ScriptError.{ScriptError}
use Rattle.pt_script.specs.declared.error.ScriptError.TheVariants.{Bad, Memory}
use Rattle.pt_script.specs.Grammar.{State}
use Rattle.pt_script.specs.Text.{StopsAt}
use Rattle.pt_script.specs.Numbered.{body_lines, tail_lines, lines_of, has_numbers, has_ask_numbers}

-- the lines that were read, by the part that is being read
abbrev pub lines_at : Stage → List Command → List Ask → List Line
lines_at Format commands asks = []
lines_at (Frames format levels) commands asks = form.Format format levels ∷ []
lines_at (Hold format levels frames) commands asks = form.Format format levels ∷ form.Frames frames ∷ []
lines_at (Body h) commands asks = form.Format h.format h.levels ∷ form.Frames h.frames ∷ form.Hold h.hold ∷ body_lines commands
lines_at (Tail h) commands asks = form.Format h.format h.levels ∷ form.Frames h.frames ∷ form.Hold h.hold ∷ body_lines commands ++ form.Close ∷ tail_lines asks
lines_at (Over h) commands asks = lines_of h.format h.levels h.frames h.hold commands asks

-- whether no command was read yet
abbrev pub is_header : Stage → Bool
is_header (Body h) = false
is_header (Tail h) = false
is_header (Over h) = false
is_header _ = true

-- whether `close` was read
abbrev pub is_closed : Stage → Bool
is_closed (Tail h) = true
is_closed (Over h) = true
is_closed _ = false

pub record IsDraft (stage : Stage) (lines : ℕ) (commands : List Command) (asks : List Ask) : Type 0 where
  pub number : lines ≡ length (lines_at stage commands asks)
  pub numbered : IsTrue (has_numbers commands)
  pub asked : IsTrue (has_ask_numbers commands asks)
  pub no_commands : is_header stage ≡ true → commands ≡ []
  pub no_asks : is_closed stage ≡ false → asks ≡ []

abbrev pub command_of : Line → Option What
command_of (form.Map va pa len prot) = Some (what.Map va pa len prot)
command_of (form.Unmap va len) = Some (what.Unmap va len)
command_of (form.Lookup va) = Some (what.Lookup va)
command_of form.Dump = Some what.Dump
command_of form.Release = Some what.Release
command_of (form.Fork at) = Some (what.Fork at)
command_of form.With = Some what.With
command_of form.End = Some what.End
command_of _ = None

abbrev pub ask_of : Line → Option AskWhat
ask_of (form.Walk va) = Some (asked.Walk va)
ask_of form.Census = Some asked.Census
ask_of _ = None

abbrev pub with_command : List Command → ℕ → Option What → List Command
with_command commands number None = commands
with_command commands number (Some w) = commands ++ record { line = number; what = w } ∷ []

abbrev pub with_ask : List Ask → ℕ → Option AskWhat → List Ask
with_ask asks number None = asks
with_ask asks number (Some w) = asks ++ record { line = number; what = w } ∷ []

-- the commands behind a line
abbrev pub commands_behind : Stage → (number : ℕ) → Line → List Command → List Command
commands_behind (Body h) number l commands = with_command commands number (command_of l)
commands_behind _ number l commands = commands

-- the asks behind a line
abbrev pub asks_behind : Stage → (number : ℕ) → Line → List Ask → List Ask
asks_behind (Tail h) number l asks = with_ask asks number (ask_of l)
asks_behind _ number l asks = asks

-- an error says why a text stops at a line
abbrev pub IsStop : State → (rest : List ℕ) → (number : ℕ) → ScriptError → Type 0
IsStop s rest number Memory = ⊥
IsStop s rest number (Bad line reason) = (line ≡ number) × StopsAt s rest reason

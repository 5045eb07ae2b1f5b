-- The lines that a script's fields stand for.
use Rattle.std.specs.Prelude.{ℕ, ◌+◌, ◌==◌, ◌&&◌, Bool, true, List, [], ◌∷◌, ◌++◌, map, length}
use Rattle.pt_model.specs.declared.command.Name.{Name}
use Rattle.pt_model.specs.declared.command.Command.{Command}
use Rattle.pt_model.specs.declared.command.Ask.{Ask}
use Rattle.pt_script.specs.declared.line.Line.{Line}
use Rattle.pt_script.specs.declared.line.Line.TheVariants as form
use Rattle.pt_script.specs.Lines.{command_line, ask_line}
use Rattle.pt_script.specs.Grammar.{is_taken}
use Rattle.pt_script.specs.Text.{all_stated}

abbrev pub body_lines : List Command → List Line
body_lines commands = map (λ c. command_line c.what) commands

abbrev pub tail_lines : List Ask → List Line
tail_lines asks = map (λ a. ask_line a.what) asks

-- the lines of a script, by its fields
abbrev pub lines_of : Name → (levels frames hold : ℕ) → List Command → List Ask → List Line
lines_of format levels frames hold body tail =
    form.Format format levels ∷ form.Frames frames ∷ form.Hold hold ∷ body_lines body ++ form.Close ∷ tail_lines tail ++ form.End ∷ []

-- whether lines are those of a script, and a text can state them
abbrev pub is_lawful : List Line → Bool
is_lawful ls = all_stated ls && is_taken ls

-- whether numbers count on from `first`
abbrev pub count_on : (first : ℕ) → List ℕ → Bool
count_on first [] = true
count_on first (n ∷ ns) = (n == first) && count_on (first + 1) ns

-- whether each command carries the number of its line, which are those from 4 on
abbrev pub has_numbers : List Command → Bool
has_numbers body = count_on 4 (map (λ c. c.line) body)

-- whether each ask carries the number of its line, which are those behind the body's and `close`
abbrev pub has_ask_numbers : List Command → List Ask → Bool
has_ask_numbers body tail = count_on (5 + length body) (map (λ a. a.line) tail)

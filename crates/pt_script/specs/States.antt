-- How far the parser has come, by its own types.
use Rattle.std.specs.Prelude.{List}
use Rattle.pt_script.specs.declared.line.Line.{Line}
use Rattle.pt_script.specs.declared.progress.Progress.{Progress}
use Rattle.pt_script.specs.declared.draft.Draft.{Draft}
use Rattle.pt_script.specs.Grammar.{Place, State}
use Rattle.pt_script.specs.Progress.{place_of, state_of}
use Rattle.pt_script.specs.Draft.{lines_at, IsDraft}

-- the place of the next line
abbrev pub place_at : Progress → Place
place_at p = place_of p.stage p.forks.items

-- the state behind the lines that were read
abbrev pub state_at : Progress → State
state_at p = state_of p.stage p.forks.items p.commands p.dumps

-- the lines that were read
abbrev pub lines_read : Draft → List Line
lines_read d = lines_at d.progress.stage d.commands.items d.asks.items

-- the commands and the asks carry the numbers of their lines, and none was read too early
abbrev pub IsSound : Draft → Type 0
IsSound d = IsDraft d.progress.stage d.progress.lines d.commands.items d.asks.items

-- The lines of commands and of their replies.
use Rattle.std.specs.Prelude.{◌≡◌, ℕ, ◌+◌, ◌≤◌, Bool, List, [], ◌∷◌}
use Rattle.pt_model.specs.declared.command.Command.{Command}
use Rattle.pt_model.specs.declared.reply.Reply.{Reply}
use Rattle.pt_model.specs.Run.{is_frames}

abbrev pub LinesFrom : ℕ → List Command → Type 0
LinesFrom line [] = Unit {0}
LinesFrom line (c ∷ cs) = (line ≤ c.line) × LinesFrom line cs

-- the line numbers rise
abbrev pub CommandsRise : List Command → Type 0
CommandsRise [] = Unit {0}
CommandsRise (c ∷ cs) = LinesFrom (c.line + 1) cs × CommandsRise cs

-- at each reply's line the set says whether it is `map frames`
abbrev pub Reads : (ℕ → Bool) → List Reply → Type 0
Reads l [] = Unit {0}
Reads l (r ∷ rs) = (l r.line ≡ is_frames r.answer) × Reads l rs

-- The line at which a text is bad is the first that no script has after the lines before it.
use Rattle.std.specs.Prelude.{◌≡◌, ◌≢◌, ℕ, List, ◌∷◌, ◌++◌, IsTrue}
use Rattle.pt_script.specs.declared.line.Line.{Line}
use Rattle.pt_script.specs.declared.error.Reason.{Reason}
use Rattle.pt_script.specs.declared.error.Reason.TheVariants.{After}
use Rattle.pt_script.specs.Text.{script_text, IsBadAt, IsRefused}
use Rattle.pt_script.specs.Numbered.{is_lawful}

pub record IsFirst (text : List ℕ) (number : ℕ) (reason : Reason) (b : IsBadAt text number reason) : Type 0 where
  -- the lines before it begin a script
  pub begins : (more : List Line) × IsTrue (is_lawful (b.lines ++ more))
  -- where a line is refused, no script's text has it behind them
  pub refused : (r : IsRefused b.state b.rest reason) (tail : List ℕ) (ls : List Line) → IsTrue (is_lawful ls) → script_text ls ≢ script_text b.lines ++ (r.raw ++ 10 ∷ tail)
  -- where the line follows the last `end`, they are a whole script
  pub over : reason ≡ After → IsTrue (is_lawful b.lines)

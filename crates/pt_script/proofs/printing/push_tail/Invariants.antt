use Rattle.std.proofs.Common.{◌≡◌, ◌++◌, drop}
use Rattle.pt_script.specs.Text.{script_text}
use Rattle.pt_script.specs.Numbered.{tail_lines}
use Rattle.pt_script.proofs.printing.push_tail.Given as goal

abbrev pub invariant-loop-ask : goal.invariant-loop-ask
invariant-loop-ask l = l.out.items ++ script_text (tail_lines (drop l.ask-index l.asks)) ≡ l.initial.out.items ++ script_text (tail_lines l.asks)

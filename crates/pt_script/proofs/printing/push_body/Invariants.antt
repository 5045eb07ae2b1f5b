use Rattle.std.proofs.Common.{◌≡◌, ◌++◌, drop}
use Rattle.pt_script.specs.Text.{script_text}
use Rattle.pt_script.specs.Numbered.{body_lines}
use Rattle.pt_script.proofs.printing.push_body.Given as goal

abbrev pub invariant-loop-command : goal.invariant-loop-command
invariant-loop-command l = l.out.items ++ script_text (body_lines (drop l.command-index l.commands)) ≡ l.initial.out.items ++ script_text (body_lines l.commands)

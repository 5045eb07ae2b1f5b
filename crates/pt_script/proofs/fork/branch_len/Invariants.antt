use Rattle.std.proofs.Common.{◌≡◌, ◌+◌, ◌≤◌, drop}
use Rattle.pt_script.specs.Numbered.{body_lines}
use Rattle.pt_script.proofs.BranchLemmas.{scan}
use Rattle.pt_script.proofs.fork.branch_len.Given as goal

abbrev pub invariant-loop-place : goal.invariant-loop-place
invariant-loop-place l = (l.inner ≤ l.place) × (l.place + scan l.inner (body_lines (drop l.place l.commands)) ≡ scan 0 (body_lines l.commands))

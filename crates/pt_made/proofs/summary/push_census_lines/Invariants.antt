use Rattle.std.proofs.Common.{◌≡◌, ◌++◌, drop}
use Rattle.pt_made.specs.Summary.{census_lines}
use Rattle.pt_made.proofs.summary.push_census_lines.Given as goal

abbrev pub invariant-loop-reply : goal.invariant-loop-reply
invariant-loop-reply l = l.out.items ++ census_lines (drop l.reply-index l.replies) ≡ l.initial.out.items ++ census_lines l.replies

use Rattle.std.proofs.Common.{◌≡◌, take}
use Rattle.std.specs.Prelude.{count_by}
use Rattle.pt_made.specs.Summary.{is_counted}
use Rattle.pt_made.proofs.summary.count_of.Given as goal

abbrev pub invariant-loop-reply : goal.invariant-loop-reply
invariant-loop-reply l = l.count ≡ count_by (λ r. is_counted l.kind r.answer) (take l.reply-index l.replies)

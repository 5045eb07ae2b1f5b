use Rattle.std.proofs.Common.{◌≡◌, ◌+◌, ◌*◌, ◌^◌, ◌≤◌, drop}
use Rattle.pt_made.specs.Summary.{pages_unmapped}
use Rattle.pt_made.proofs.summary.pages_unmapped.Given as goal

-- the pages so far and those of the replies that are left are the pages of all
abbrev pub invariant-loop-reply : goal.invariant-loop-reply
invariant-loop-reply l = record {
  sum : l.pages + pages_unmapped (drop l.reply-index l.replies) ≡ pages_unmapped l.replies;
  few : l.pages ≤ l.reply-index * 2 ^ 64;
}

use Rattle.std.proofs.Common.{length, drop, ◌-◌, ◌+◌, ◌*◌, ◌≤◌}
use Rattle.pt_forks.specs.Places.{StaysIn}
use Rattle.pt_forks.specs.Running.{AddsTold, Comes, IsOneBody}
use Rattle.pt_forks.proofs.run.+run_part.Given as goal

abbrev pub decreases-run_part : goal.decreases-run_part
decreases-run_part g l = 4 * length l.commands.now + 2

abbrev pub decreases-run_first : goal.decreases-run_first
decreases-run_first g l = 4 * length l.commands.now + 1

abbrev pub decreases-run_fork : goal.decreases-run_fork
decreases-run_fork g l = 4 * length l.commands.now

abbrev pub decreases-run_branch : goal.decreases-run_branch
decreases-run_branch g l = 4 * length l.commands.now + 3

-- the commands before the place are run, and those from it on are a body
abbrev pub invariant-run_part-loop-place : goal.invariant-run_part-loop-place
invariant-run_part-loop-place g l =
    (l.place ≤ length l.commands) × StaysIn (g.H.Owner.place l.initial.owner) (g.H.Owner.place l.owner)
    × IsOneBody (drop l.place l.commands) (g.H.Owner.place l.owner).cuts
    × Comes (g.H.Owner.place l.initial.owner) (g.H.Owner.place l.owner) l.commands (drop l.place l.commands) l.initial.replies.items l.replies.items
    × AddsTold g.H.Owner.told l.initial.replies.items l.replies.items

abbrev pub decreases-run_part-loop-place : goal.decreases-run_part-loop-place
decreases-run_part-loop-place g l = length l.commands - l.place

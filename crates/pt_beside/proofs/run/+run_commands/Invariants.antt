use Rattle.std.proofs.Common.{length, drop, take, ◌-◌, ◌+◌, ◌*◌, ◌≤◌}
use Rattle.pt_beside.specs.Places.{StaysIn}
use Rattle.pt_beside.specs.Running.{IsBodyOf, Ran}
use Rattle.pt_beside.proofs.run.+run_commands.Given as goal

abbrev pub decreases-run_commands : goal.decreases-run_commands
decreases-run_commands g l = 4 * length l.commands.now + 2

abbrev pub decreases-run_first : goal.decreases-run_first
decreases-run_first g l = 4 * length l.commands.now + 1

abbrev pub decreases-run_fork : goal.decreases-run_fork
decreases-run_fork g l = 4 * length l.commands.now

abbrev pub decreases-run_branches : goal.decreases-run_branches
decreases-run_branches g l = 4 * (length l.left.commands.now + length l.right.commands.now) + 5

abbrev pub decreases-run_branches-join+arg2 : goal.decreases-run_branches-join+arg2
decreases-run_branches-join+arg2 g l = 4 * length l.first.now + 4

abbrev pub decreases-run_branches-join+arg3 : goal.decreases-run_branches-join+arg3
decreases-run_branches-join+arg3 g l = 4 * length l.second.now + 4

abbrev pub decreases-run_branch : goal.decreases-run_branch
decreases-run_branch g l = 4 * length l.commands.now + 3

-- the commands before the place are run, and those from it on are a body
abbrev pub invariant-run_commands-loop-place : goal.invariant-run_commands-loop-place
invariant-run_commands-loop-place g l =
    (l.place ≤ length l.commands) × StaysIn (g.P.Part.place l.initial.part) (g.P.Part.place l.part)
    × IsBodyOf (g.P.Part.place l.part) (drop l.place l.commands)
    × Ran g.P.Part.told (g.P.Part.place l.initial.part) (g.P.Part.place l.part) (take l.place l.commands) l.replies.items

abbrev pub decreases-run_commands-loop-place : goal.decreases-run_commands-loop-place
decreases-run_commands-loop-place g l = length l.commands - l.place

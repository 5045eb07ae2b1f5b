use Rattle.std.proofs.Common.{◌≡◌, ◌+◌, ◌*◌, ◌^◌, ◌≤◌, drop}
use Rattle.pt_laws.specs.Need.{need}
use Rattle.pt_made.specs.Needing.{machine}
use Rattle.pt_made.proofs.needing.need_on.Given as goal

-- the need so far and that of the commands that are left are the need of all
abbrev pub invariant-loop-command : goal.invariant-loop-command
invariant-loop-command g l = record {
  sum : l.need + need (machine g.F.Format.layout l.levels l.frames) (drop l.command-index l.commands) ≡ need (machine g.F.Format.layout l.levels l.frames) l.commands;
  few : l.need ≤ l.command-index * 2 ^ 32;
}

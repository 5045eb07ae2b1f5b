use Rattle.std.proofs.Common.{arith}
use Rattle.pt_script.proofs.BranchLemmas.{scan_branch, branch_at, branch_within, ends_here, no_more}
use Rattle.pt_script.proofs.fork.branch_len.Goals as goal

pub returns-in_default-clause-branch : goal.returns-in_default-clause-branch
returns-in_default-clause-branch c =
    let cs = c.args.commands.now in
    let l = c.loop-place in
    branch_at cs c.requires.0 l.place c.requires.1 (omega (arith, l.invariant.1, ends_here cs l.place l.inner _ c.loop-place-test.true c.in_default.ensures))

pub unreachable-requires : goal.unreachable-requires
unreachable-requires c =
    let cs = c.args.commands.now in
    let l = c.loop-place in
    omega (arith, l.invariant.1, no_more cs l.place l.inner c.loop-place-test.false, scan_branch cs c.requires.0 c.requires.1, branch_within cs c.requires.0 c.requires.1)

use Rattle.pt_script.proofs.BranchLemmas.{first_is, second_is, fork_is, same_fork}
use Rattle.pt_script.proofs.fork.branches.Goals as goal

pub branch_len-middle-requires : goal.branch_len-middle-requires
branch_len-middle-requires c = let f = c.requires.2 in first_is c.args.commands.now c.requires.0 c.requires.1 f

pub branch_len-requires : goal.branch_len-requires
branch_len-requires c = let f = c.requires.2 in second_is c.args.commands.now c.requires.0 c.requires.1 c.branch_len-middle.result f c.branch_len-middle.ensures.branch

pub returns-clause-fork : goal.returns-clause-fork
returns-clause-fork c =
    let f = c.requires.2 in
    fork_is c.args.commands.now c.requires.0 c.requires.1 c.branch_len-middle.result c.branch_len.result f c.branch_len-middle.ensures.branch c.branch_len.ensures.branch

pub returns-clause-only : goal.returns-clause-only
returns-clause-only c =
    let f = c.requires.2 in
    let g = fork_is c.args.commands.now c.requires.0 c.requires.1 c.branch_len-middle.result c.branch_len.result f c.branch_len-middle.ensures.branch c.branch_len.ensures.branch in
    λ m l h. same_fork c.args.commands.now m l _ _ h g

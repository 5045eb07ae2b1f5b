use Rattle.std.proofs.Common.{◌≡◌, ◌+◌, ◌∷◌, [], ℕ, ap, subst, ◌∙◌}
use Rattle.pt_model.specs.declared.command.What.{What}
use Rattle.pt_model.specs.declared.command.What.TheVariants.{Fork}
use Rattle.pt_made.specs.Made.{bytes, first_of, per_branch, drawn_commands, branch_of}
use Rattle.pt_made.proofs.Drawing.{Extends, fork_drawn, two_before}
use Rattle.pt_made.proofs.making.push_fork.Goals as goal

pub returns-clause-commands : goal.returns-clause-commands
returns-clause-commands g c number from =
    let f = g.F.Format.layout in
    let states = two_before g.F.Format.layout c.args.branch number c.args.draws.now.state c.push_branch.new.draws.state c.push_branch-2.new.draws.state
    from c.in_ok-push_branch.ensures.state c.in_ok-push_branch-2.ensures.state in
    let start = c.args.commands.now.items in
    let at : Fork c.bytes-at.result ≡ Fork (bytes g.F.Format.layout (first_of g.F.Format.layout (c.args.branch + 1))) =
    ap (λ (n : ℕ). Fork n) (c.bytes-at.ensures ∙ ap (λ (n : ℕ). bytes g.F.Format.layout n) c.first_of.ensures.page) in
    fork_drawn g.F.Format.layout (c.args.branch + 1) (branch_of g.F.Format.layout number c.args.branch) (branch_of g.F.Format.layout number (c.args.branch + 1))
    c.args.commands.now.items c.push_command.new.commands.items c.push_branch.new.commands.items c.push_command-2.new.commands.items c.push_branch-2.new.commands.items c.push_command-3.new.commands.items
    (subst (λ (w : What). Extends c.args.commands.now.items (w ∷ []) c.push_command.new.commands.items) at c.in_ok-push_command.ensures.commands)
    (subst (λ (s : ℕ). Extends c.push_command.new.commands.items (drawn_commands g.F.Format.layout c.args.branch (per_branch g.F.Format.layout) s) c.push_branch.new.commands.items) from c.in_ok-push_branch.ensures.commands)
    c.in_ok-push_command-2.ensures.commands
    (subst (λ (s : ℕ). Extends c.push_command-2.new.commands.items (drawn_commands g.F.Format.layout (c.args.branch + 1) (per_branch g.F.Format.layout) s) c.push_branch-2.new.commands.items) states.0 c.in_ok-push_branch-2.ensures.commands)
    c.in_ok-push_command-3.ensures.commands

pub returns-clause-state : goal.returns-clause-state
returns-clause-state g c number from =
    (two_before g.F.Format.layout c.args.branch number c.args.draws.now.state c.push_branch.new.draws.state c.push_branch-2.new.draws.state
    from c.in_ok-push_branch.ensures.state c.in_ok-push_branch-2.ensures.state).1

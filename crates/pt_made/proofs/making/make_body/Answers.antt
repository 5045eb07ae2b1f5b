use Rattle.std.proofs.Common.{◌≡◌, ◌∷◌, [], ℕ, List, ap, subst, sym, ◌∙◌}
use Rattle.pt_model.specs.declared.command.What.{What}
use Rattle.pt_model.specs.declared.command.What.TheVariants.{Fork}
use Rattle.pt_model.specs.declared.command.Command.{Command}
use Rattle.pt_made.specs.Made.{bytes, first_of, inner_fork, whats}
use Rattle.pt_made.proofs.Drawing.{Extends, fork_drawn, before_first}
use Rattle.pt_made.proofs.making.make_body.Goals as goal

pub returns : goal.returns
returns g c =
    let start = sym (before_first g.F.Format.layout c.args.number) in
    let at : Fork c.bytes-at.result ≡ Fork (bytes g.F.Format.layout (first_of g.F.Format.layout 2)) =
    ap (λ (n : ℕ). Fork n) (c.bytes-at.ensures ∙ ap (λ (n : ℕ). bytes g.F.Format.layout n) c.first_of.ensures.page) in
    let none = c.new-commands.ensures.items in
    subst (λ (cs : List Command). Extends cs (whats g.F.Format.layout c.args.number) c.push_command-3.new.commands.items) none
    (fork_drawn g.F.Format.layout 2 (inner_fork g.F.Format.layout c.args.number 0) (inner_fork g.F.Format.layout c.args.number 2)
    c.new-commands.result.items c.push_command.new.commands.items c.push_fork.new.commands.items c.push_command-2.new.commands.items c.push_fork-2.new.commands.items c.push_command-3.new.commands.items
    (subst (λ (w : What). Extends c.new-commands.result.items (w ∷ []) c.push_command.new.commands.items) at c.in_ok-push_command.ensures.commands)
    (c.in_ok-push_fork.ensures.commands c.args.number start)
    c.in_ok-push_command-2.ensures.commands
    (c.in_ok-push_fork-2.ensures.commands c.args.number (c.in_ok-push_fork.ensures.state c.args.number start))
    c.in_ok-push_command-3.ensures.commands)

-- That each fork of a body has its `with` and its `end`.
use Rattle.std.proofs.Common.{◌≡◌, ℕ, zero, suc, ◌+◌, ◌%◌, Bool, true, false, List, [], ◌∷◌, ◌++◌, length, refl, ap, subst, sym, ◌∙◌}
use Rattle.std.specs.Prelude.{◌==◌, if◌then◌else◌}
use Rattle.pt_model.specs.declared.block.Prot.{Prot}
use Rattle.pt_model.specs.declared.command.What.{What}
use Rattle.pt_model.specs.declared.command.What.TheVariants.{Map, Unmap, Lookup, Fork, With, End}
use Rattle.pt_model.specs.declared.command.Command.{Command}
use Rattle.pt_model.specs.Layout.{Layout}
use Rattle.pt_laws.specs.Need.{fork_lines}
use Rattle.pt_laws.specs.OneText
use Rattle.pt_laws.specs.OneText.{IsNested, is_call}
use Rattle.pt_made.specs.Draws.{next, next_four, drawn}
use Rattle.pt_made.specs.Made.{bytes, first_of, per_branch, drawn_command, drawn_commands, branch_of, fork_at, inner_fork, numbered, body_on, state_before}
use Rattle.pt_made.proofs.Drawing.{numbered_append}

kind_is_call : (x y : Bool) (va pa len : ℕ) (prot : Prot) → is_call (if x then Lookup va else (if y then Unmap va len else Map va pa len prot)) ≡ true
kind_is_call true y va pa len prot = refl
kind_is_call false true va pa len prot = refl
kind_is_call false false va pa len prot = refl

drawn_nested : (f : Layout) (branch count state line : ℕ) → IsNested (numbered line (drawn_commands f branch count state))
unfolding drawn_commands
drawn_nested f branch zero state line = OneText.nothing
drawn_nested f branch (suc n) state line =
    OneText.call (record { line = line; what = drawn_command f branch state }) (numbered (line + 1) (drawn_commands f branch n (next_four state)))
    (kind_is_call (drawn (next state) % 4 == 3) (drawn (next state) % 4 == 2) _ _ _ _)
    (drawn_nested f branch n (next_four state) (line + 1))

-- a fork with the numbers of its lines
pub fork_numbered : (f : Layout) (line branch : ℕ) (left right : List What) → numbered line (fork_at f branch left right)
    ≡ fork_lines line (bytes f (first_of f branch)) (line + 1 + length left) (line + 1 + length left + 1 + length right) (numbered (line + 1) left) (numbered (line + 1 + length left + 1) right) []
fork_numbered f line branch left right =
    ap (λ (cs : List Command). record { line = line; what = Fork (bytes f (first_of f branch)) } ∷ cs)
    (numbered_append (line + 1) left (With ∷ right ++ (End ∷ []))
    ∙ ap (λ (cs : List Command). numbered (line + 1) left ++ (record { line = line + 1 + length left; what = With } ∷ cs)) (numbered_append (line + 1 + length left + 1) right (End ∷ [])))

fork_nested : (f : Layout) (line branch : ℕ) (left right : List What) → ((n : ℕ) → IsNested (numbered n left)) → ((n : ℕ) → IsNested (numbered n right)) → IsNested (numbered line (fork_at f branch left right))
fork_nested f line branch left right l r =
    subst (λ (cs : List Command). IsNested cs) (sym (fork_numbered f line branch left right))
    (OneText.fork line (bytes f (first_of f branch)) (line + 1 + length left) (line + 1 + length left + 1 + length right)
    (numbered (line + 1) left) (numbered (line + 1 + length left + 1) right) [] (l (line + 1)) (r (line + 1 + length left + 1)) OneText.nothing)

branch_nested : (f : Layout) (number branch line : ℕ) → IsNested (numbered line (branch_of f number branch))
branch_nested f number branch line = drawn_nested f branch (per_branch f) (state_before f branch number) line

inner_nested : (f : Layout) (number branch line : ℕ) → IsNested (numbered line (inner_fork f number branch))
inner_nested f number branch line =
    fork_nested f line (branch + 1) (branch_of f number branch) (branch_of f number (branch + 1)) (branch_nested f number branch) (branch_nested f number (branch + 1))

pub body_nested : (f : Layout) (number : ℕ) → IsNested (body_on f number)
body_nested f number = fork_nested f 4 2 (inner_fork f number 0) (inner_fork f number 2) (inner_nested f number 0) (inner_nested f number 2)

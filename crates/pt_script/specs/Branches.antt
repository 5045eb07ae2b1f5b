-- The branches of a fork, in a flat list of commands.
use Rattle.std.specs.Prelude.{◌≡◌, ◌≢◌, ℕ, zero, suc, ◌+◌, Bool, true, false, List, ◌∷◌, ◌++◌, length, ◌⊎◌, Option, Some, None}
use Rattle.pt_model.specs.declared.command.Command.{Command}
use Rattle.pt_script.specs.declared.line.Line.{Line}
use Rattle.pt_script.specs.declared.line.Line.TheVariants as form
use Rattle.pt_script.specs.declared.line.Keyword.TheVariants.{Fork}
use Rattle.pt_script.specs.Lines.{keyword_of}
use Rattle.pt_script.specs.Grammar.{IsBody}
use Rattle.pt_script.specs.Numbered.{body_lines}

-- The list begins with a fork, whose `with` stands at place `middle` and whose `end` at place `last`: its left branch
-- is what stands between the fork and the `with`, and its right branch what stands between the `with` and the `end`.
pub record IsFork (commands : List Command) (middle last : ℕ) : Type 0 where
  pub at : ℕ
  pub room : ℕ
  pub left : List Line
  pub right : List Line
  pub rest : List Line
  pub whole : body_lines commands ≡ form.Fork at ∷ left ++ form.With ∷ right ++ form.End ∷ rest
  pub is_left : IsBody true room left
  pub is_right : IsBody true room right
  pub middle_place : middle ≡ 1 + length left
  pub last_place : last ≡ 2 + length left + length right

-- The list begins with a branch of `count` commands, which a `with` or an `end` follows.
pub record IsBranch (commands : List Command) (count : ℕ) : Type 0 where
  pub room : ℕ
  pub branch : List Line
  pub stop : Line
  pub rest : List Line
  pub whole : body_lines commands ≡ branch ++ stop ∷ rest
  pub stops : (stop ≡ form.With) ⊎ (stop ≡ form.End)
  pub is_branch : IsBody true room branch
  pub counted : count ≡ length branch

-- How many forks of a branch are open behind a line, or nothing where it ends the branch.
abbrev pub inner_behind : ℕ → Line → Option ℕ
inner_behind inner (form.Fork at) = Some (inner + 1)
inner_behind zero form.With = None
inner_behind zero form.End = None
inner_behind (suc inner) form.End = Some inner
inner_behind inner _ = Some inner

-- What follows the first line of a fork: its two branches, which have room for one fork less in depth, and the rest of the body.
pub record IsForkRest (inside : Bool) (room : ℕ) (ls : List Line) : Type 0 where
  pub less : ℕ
  pub left : List Line
  pub right : List Line
  pub rest : List Line
  pub room_is : room ≡ suc less
  pub whole : ls ≡ left ++ form.With ∷ right ++ form.End ∷ rest
  pub is_left : IsBody true less left
  pub is_right : IsBody true less right
  pub is_rest : IsBody inside room rest

-- A body behind its first line.
pub record ComeApart : Type 0 where
  pub plain : (inside : Bool) (room : ℕ) (l : Line) (ls : List Line) → IsBody inside room (l ∷ ls) → keyword_of l ≢ Fork → IsBody inside room ls
  pub fork : (inside : Bool) (room at : ℕ) (ls : List Line) → IsBody inside room (form.Fork at ∷ ls) → IsForkRest inside room ls
  pub release : (inside : Bool) (room : ℕ) (ls : List Line) → IsBody inside room (form.Release ∷ ls) → inside ≡ false

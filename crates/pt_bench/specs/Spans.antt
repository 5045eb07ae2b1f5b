-- What runs of loads leave of the holders on which they run.
use Rattle.std.specs.Prelude.{◌≡◌, ℕ, ◌+◌, ◌≤◌}
use Rattle.pt_model.specs.Layout.{Layout}
use Rattle.pt_view.specs.declared.view.View.{View}
use Rattle.pt_view.specs.Views.{Rests}

-- a view has the pages of another
pub record SameSpan (v w : View) : Type 0 where
  pub first : w.first ≡ v.first
  pub count : w.count ≡ v.count

-- a holder is at rest after a call, of the same space and the same pages
pub record ComesBack {X S : Type 0} (f : Layout) (space : X → S) (view : X → View) (old new : X) : Type 0 where
  pub same_space : space new ≡ space old
  pub span : SameSpan (view old) (view new)
  pub rest : Rests f (view new)

-- one view has the pages of two, the second of which begins where the first ends
pub record AreBeside (v left right : View) : Type 0 where
  pub first : left.first ≡ v.first
  pub next : right.first ≡ left.first + left.count
  pub count : left.count + right.count ≡ v.count

-- no more steps were made, and no more of their ranges found, than there are
pub record IsTallyOf (count made found : ℕ) : Type 0 where
  pub few_made : made ≤ count
  pub few_found : found ≤ count

-- Where a lease without blocks stands between its calls, on its way to link a table under the root's or to raise the root.
use Rattle.std.specs.Prelude.{◌≡◌, ℕ, ◌+◌, ◌-◌, ◌<◌, ◌≤◌, List, [], ◌∷◌, Option, None, Some, length}
use Rattle.pt_model.specs.Layout.{Layout}
use Rattle.pt_model.specs.Tables.{spine_position}
use Rattle.pt_view.specs.declared.view.View.{View}
use Rattle.pt_view.specs.declared.view.Node.{Node}
use Rattle.pt_view.specs.declared.view.Prepared.{Prepared}
use Rattle.pt_view.specs.declared.holder.Won.{Won}
use Rattle.pt_view.specs.declared.holder.Won.TheVariants.{Yes, Met}
use Rattle.pt_view.specs.Calls.{IsPrepared}
use Rattle.pt_view.specs.Views.{SameRange}
use Rattle.pt_space.specs.Standing.{Standing}

-- the space and the span stay
pub record Moves (old new : Standing) : Type 0 where
  pub space : new.space ≡ old.space
  pub range : SameRange old.view new.view

-- it has no block, and no end mark
pub record IsBlank (v : View) : Type 0 where
  pub pieces : v.pieces ≡ []
  pub end : v.end ≡ None

-- it is at rest
pub record IsIdle (v : View) : Type 0 where
  pub blank : IsBlank v
  pub path : v.path ≡ []
  pub prepared : v.prepared ≡ None

abbrev pub root_at : (frame level : ℕ) → Node
root_at frame level = record { frame = frame; position = spine_position level }

-- its path is the root's table, of this level
pub record IsAtRoot (f : Layout) (level : ℕ) (v : View) : Type 0 where
  pub blank : IsBlank v
  pub frame : ℕ
  pub path : v.path ≡ root_at frame level ∷ []
  pub legal : level < f.levels
  pub reaches : v.top ≤ level

-- it has loaded the root
pub record IsRooted (f : Layout) (level : ℕ) (v : View) : Type 0 where
  pub root : IsAtRoot f level v
  pub prepared : v.prepared ≡ None

-- and has prepared a frame for the table over page 0 of another level
pub record IsReady (f : Layout) (level at : ℕ) (v : View) : Type 0 where
  pub root : IsAtRoot f level v
  pub own : ℕ
  pub prepared : v.prepared ≡ Some (record { frame = own; position = spine_position at; bridge = None })

-- the prepared frame is linked, or still prepared
abbrev pub IsTold : Won → View → Type 0
IsTold Yes v = v.prepared ≡ None
IsTold Met v = IsPrepared v

-- it has tried to link its frame, and its path has so many tables
pub record IsTried (won : Won) (depth : ℕ) (v : View) : Type 0 where
  pub blank : IsBlank v
  pub depth_is : length v.path ≡ depth
  pub told : IsTold won v

-- after a growth it is at the new root, or has no path
abbrev pub depth_after : Won → ℕ
depth_after Yes = 1
depth_after Met = 0

-- How far a racer is.
use Rattle.std.specs.Prelude.{◌≡◌, ℕ, ◌+◌, ◌-◌, ◌<◌, ⊤}
use Rattle.pt_model.specs.Layout.{Layout}
use Rattle.pt_view.specs.declared.view.View.{View}
use Rattle.pt_view.specs.declared.holder.Won.{Won}
use Rattle.space_cases.specs.declared.racer.Goal.{Goal}
use Rattle.space_cases.specs.declared.racer.Goal.TheVariants.{Link, Raise, Unlink}
use Rattle.space_cases.specs.declared.racer.Stage.{Stage}
use Rattle.space_cases.specs.declared.racer.Stage.TheVariants.{Idle, Rooted, Prepared, Tried, Done}
use Rattle.space_cases.specs.Racing.{IsIdle, IsReady, IsRooted, IsTried, depth_after}
use Rattle.space_cases.specs.Owned.{HasTableAt}

-- a table that is to be unlinked is there
abbrev pub MayGoTo : Layout → Goal → View → Type 0
MayGoTo f (Link spare) v = ⊤
MayGoTo f Raise v = ⊤
MayGoTo f (Unlink level number) v = HasTableAt f level number v

-- a frame is prepared for the child's level, or for the level above the root's
abbrev pub IsPreparedFor : Layout → Goal → (level : ℕ) → View → Type 0
IsPreparedFor f (Link spare) level v = (0 < level) × IsReady f level (level - 1) v
IsPreparedFor f Raise level v = IsReady f level (level + 1) v
IsPreparedFor f (Unlink at number) level v = ⊥

-- what was linked is on the path, or what was unlinked is in the purse
abbrev pub HasTried : Layout → Goal → Won → View → Type 0
HasTried f (Link spare) won v = IsTried won 2 v
HasTried f Raise won v = IsTried won (depth_after won) v
HasTried f (Unlink level number) won v = IsRooted f level v

abbrev pub IsAt : Layout → Goal → Stage → View → Type 0
IsAt f goal Idle v = IsIdle v × MayGoTo f goal v
IsAt f goal (Rooted level) v = IsRooted f level v × MayGoTo f goal v
IsAt f goal (Prepared level) v = IsPreparedFor f goal level v
IsAt f goal (Tried won) v = HasTried f goal won v
IsAt f goal Done v = IsIdle v

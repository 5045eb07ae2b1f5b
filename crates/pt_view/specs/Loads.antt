-- Loads: where the next one is made, and what calls that only load leave as it was.
use Rattle.std.specs.Prelude.{◌≡◌, ℕ, ◌+◌, ◌<◌, ◌≤◌, List, ◌++◌, Some}
use Rattle.pt_model.specs.Layout.{Layout}
use Rattle.pt_model.specs.Tables.{position_over}
use Rattle.pt_model.specs.declared.position.Position.{Position}
use Rattle.pt_model.specs.Sets.{IsAmong}
use Rattle.pt_view.specs.declared.view.View.{View}
use Rattle.pt_view.specs.declared.view.Absence.{Absence}
use Rattle.pt_view.specs.Lists.{SameFrames}
use Rattle.pt_view.specs.Views.{SameBook, SamePurse, SameRange}
use Rattle.pt_view.specs.Calls.{lowest}

abbrev pub IsInSpan : View → (page : ℕ) → Type 0
IsInSpan v page = (v.first ≤ page) × (page < v.first + v.count)

-- the path's last table is the one of this level over the page
pub record IsOver (f : Layout) (v : View) (page level : ℕ) : Type 0 where
  pub frame : ℕ
  pub is : lowest v.path ≡ Some (record { frame = frame; position = position_over f page level })

-- what loads showed to be absent comes after what they showed before
pub record AddsAbsences (v w : View) : Type 0 where
  pub facts : List Absence
  pub are : w.absent ≡ v.absent ++ facts

-- what loads leave as it was; they may tell of more linked positions, and of absent ones
pub record ByLoads (tells : Type 0) (v w : View) : Type 0 where
  pub range : SameRange v w
  pub book : SameBook v w
  pub purse : SamePurse v w
  pub prepared : w.prepared ≡ v.prepared
  pub busy : SameFrames v.busy w.busy
  pub known : (p : Position) → IsAmong v.known p → IsAmong w.known p
  pub taken : tells → w.taken ≡ v.taken
  pub stores : tells → w.stores ≡ v.stores
  pub absent : tells → AddsAbsences v w

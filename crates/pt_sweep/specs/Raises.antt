-- What the raising of the top does.
use Rattle.std.specs.Prelude.{◌≡◌, ℕ, ◌+◌, ◌<◌, ◌≤◌, List, ◌++◌, length, max, None}
use Rattle.pt_model.specs.declared.position.Position.{Position}
use Rattle.pt_model.specs.Layout.{Layout}
use Rattle.pt_model.specs.Sets.{IsAmong}
use Rattle.pt_model.specs.Tables.{spine_position, starting_top}
use Rattle.pt_view.specs.declared.view.View.{View}
use Rattle.pt_view.specs.Calls.{IsRootAt}
use Rattle.pt_view.specs.Lists.{SameFrames}
use Rattle.pt_view.specs.Loads.{AddsAbsences}
use Rattle.pt_view.specs.Views.{SameRange}

-- the path is the root's table, of this level, which is not below the book's top, and the spine up to it is known
pub record AtRoot (f : Layout) (v : View) (root : ℕ) : Type 0 where
  pub path : IsRootAt v root
  pub reaches : v.top ≤ root
  pub low : starting_top v.levels ≤ root
  pub legal : root < f.levels
  pub spine : (level : ℕ) → starting_top v.levels ≤ level → level ≤ root → IsAmong v.known (spine_position level)
  pub none : v.prepared ≡ None

-- a root may be raised to a level of the format: the purse has a frame for each level more
pub record MayRaise (f : Layout) (v : View) (root top : ℕ) : Type 0 where
  pub at : AtRoot f v root
  pub legal : top < f.levels
  pub frames : top ≤ root + length v.purse

abbrev pub MayRaiseOne : Layout → View → (root : ℕ) → Type 0
MayRaiseOne f v root = MayRaise f v root (root + 1)

-- over a lone holder whose book's top was the root, it is so after, and no level was raised in vain
pub record RaisesAlone (v w : View) (root top level used : ℕ) : Type 0 where
  pub level_is : level ≡ max root top
  pub top_is : v.top ≡ root → w.top ≡ level
  pub used_is : used + root ≡ level

-- The root is at least of the level asked for. The book's top rose no higher than that, the purse lost no more frames than
-- levels were lacking, each from its front, and nothing else changed.
pub record Raises (f : Layout) (tells alone : Type 0) (v w : View) (root top level : ℕ) : Type 0 where
  pub range : SameRange v w
  pub pieces : w.pieces ≡ v.pieces
  pub tables : w.tables ≡ v.tables
  pub at : AtRoot f w level
  pub high : max root top ≤ level
  pub top_from : v.top ≤ w.top
  pub top_to : w.top ≤ max v.top top
  pub end : w.end ≡ v.end
  pub used : List ℕ
  pub purse : v.purse ≡ used ++ w.purse
  pub few : length used + root ≤ max root top
  pub busy : SameFrames v.busy w.busy
  pub known : (p : Position) → IsAmong v.known p → IsAmong w.known p
  pub taken : tells → w.taken ≡ v.taken
  pub stores : tells → w.stores ≡ v.stores
  pub absent : tells → AddsAbsences v w
  pub lone : alone → RaisesAlone v w root top level (length used)

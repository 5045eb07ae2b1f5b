-- Where the way to an extent stands.
use Rattle.std.specs.Prelude.{◌≡◌, ◌⊎◌, ℕ, ◌+◌, ◌*◌, ◌<◌, ◌≤◌, ◌^◌, length, None, IsTrue}
use Rattle.pt_model.specs.declared.position.Position.{Position}
use Rattle.pt_model.specs.Layout.{Layout}
use Rattle.pt_model.specs.Sets.{IsAmong}
use Rattle.pt_model.specs.Tables.{is_spine, least_top, spine_position, starting_top}
use Rattle.pt_tile.specs.declared.extent.Extent.{Extent}
use Rattle.pt_tile.specs.Extents.{IsExtent, IsRun, LiesUnderEntry, first_size}
use Rattle.pt_view.specs.declared.view.View.{View}
use Rattle.pt_walk.specs.Walks.{IsOverRange, IsWayDown}

-- the path's last table, of this level, is the one in which the extent is mapped: the extent is under it, its first block
-- isn't one of a table above, and the tables of the spine below it are known
pub record IsExtentAt (f : Layout) (v : View) (x : Extent) (level : ℕ) : Type 0 where
  pub extent : IsExtent f x
  pub range : IsOverRange f v x.first x.end level
  pub low : first_size f x < f.index * (level + 1)
  pub spine : (l : ℕ) → starting_top v.levels ≤ l → l < level → IsAmong v.known (spine_position l)

-- an extent lies under one entry of that table, and its blocks are those of tables below
pub record IsEntryExtent (f : Layout) (x : Extent) (level : ℕ) : Type 0 where
  pub one : LiesUnderEntry f x level
  pub lower : first_size f x < f.index * level

-- the way from the root down stands there: the path's tables are those over the extent, from the root's level down to this
-- one, nothing is prepared, and the root reaches over the extent
pub record StandsAt (f : Layout) (v : View) (x : Extent) (level : ℕ) : Type 0 where
  pub at : IsExtentAt f v x level
  pub way : IsWayDown f x.first (length v.path + level) v.path
  pub high : v.top < length v.path + level
  pub below : length v.path + level ≤ f.levels
  pub none : v.prepared ≡ None
  pub reach : least_top f v.levels x.end < length v.path + level

-- a table at a position is one of the book or of the spine
abbrev pub IsOwnTable : View → Position → Type 0
IsOwnTable v p = IsAmong v.tables p ⊎ IsTrue (is_spine v.levels p)

-- an extent is one block, of the table of this level or of one above
pub record IsBlockOf (f : Layout) (x : Extent) (log2 level : ℕ) : Type 0 where
  pub size : log2 ≡ first_size f x
  pub high : f.index * level ≤ log2
  pub whole : x.end ≡ x.first + 2 ^ log2

-- an extent is a run of so many equal blocks, of the table of this level or of one above
pub record IsRunOf (f : Layout) (x : Extent) (log2 level count : ℕ) : Type 0 where
  pub size : log2 ≡ first_size f x
  pub high : f.index * level ≤ log2
  pub run : IsRun f x count
  pub whole : x.end ≡ x.first + count * 2 ^ log2

-- The needed tables that loads find absent.
use Rattle.std.specs.Prelude.{◌≡◌, ◌⊎◌, ℕ, ◌<◌, ◌≤◌, ◌^◌, nat_le, nat_lt, ◌&&◌, ◌||◌, Bool, false, List, ◌++◌, length, min, IsTrue}
use Rattle.std.specs.List.{list_any}
use Rattle.pt_model.specs.declared.position.Position.{Position}
use Rattle.pt_model.specs.Layout.{Layout, pages_of_table}
use Rattle.pt_model.specs.Sets.{IsAmong, places}
use Rattle.pt_model.specs.Tables.{end_of_table, is_spine}
use Rattle.pt_tile.specs.declared.extent.Extent.{Extent}
use Rattle.pt_tile.specs.Extents.{tables_below, tiles}
use Rattle.pt_view.specs.declared.view.View.{View}
use Rattle.pt_view.specs.declared.view.Absence.{Absence}
use Rattle.pt_view.specs.declared.view.Absence.TheVariants.{Zero, Top}
use Rattle.pt_walk.specs.Walks.{IsClear, IsFree, IsLowest, OwnsAll}
use Rattle.pt_view.specs.Loads.{ByLoads}
use Rattle.pt_map.specs.declared.survey.Found.{Found}
use Rattle.pt_map.specs.declared.survey.Found.TheVariants.{Mapped, Absent}
use Rattle.pt_map.specs.Replaced.{HasNoneReplaced}
use Rattle.pt_map.specs.Stands.{IsExtentAt, IsOwnTable}

-- a load showed that no table is linked at a position: the entry for it, or for one over it, was zero, or the
-- root's table was too low for it
abbrev pub shows : Layout → Absence → Position → Bool
shows f (Zero q) p = nat_le q.base p.base && nat_le (end_of_table f p) (end_of_table f q)
shows f (Top level) p = nat_lt level p.level || nat_lt (pages_of_table f level) (end_of_table f p)

abbrev pub is_shown : Layout → List Absence → Position → Bool
is_shown f facts p = list_any (λ x. shows f x p) facts

-- a needed position off the spine that is neither a table of the book nor known to be linked
pub record IsMissing (v : View) (needed : List Position) (p : Position) : Type 0 where
  pub is_needed : IsAmong needed p
  pub off_spine : is_spine v.levels p ≡ false
  pub no_table : ¬ IsAmong v.tables p
  pub unknown : ¬ IsAmong v.known p

-- The count of the needed positions below a level that a walk from view v to view w found absent: `cap` where
-- they are more. The others are known after it.
pub record Counted (f : Layout) (tells alone : Type 0) (v w : View) (needed : List Position) (cap count : ℕ) : Type 0 where
  pub absent : List Position
  pub count_is : count ≡ min cap (length absent)
  pub once : (p : Position) → places p absent ≤ 1
  pub missing : (p : Position) → IsAmong absent p → IsMissing v needed p
  pub others : count < cap → (p : Position) → IsAmong needed p → IsAmong absent p ⊎ IsAmong w.known p
  pub all : alone → count < cap → (p : Position) → IsAmong needed p → IsAmong absent p ⊎ IsOwnTable v p
  pub told : tells → (facts : List Absence) × (w.absent ≡ v.absent ++ facts) × ((p : Position) → IsAmong absent p → IsTrue (is_shown f facts p))

-- an extent may be looked through from the path's last table, of this level, with so many absent tables at most to count
pub record MaySurvey (f : Layout) (v : View) (x : Extent) (level cap : ℕ) : Type 0 where
  pub at : IsExtentAt f v x level
  pub clear : IsClear f v x.first x.end level
  pub owns : OwnsAll f v
  pub fits : cap ≤ 2 ^ 32

-- a look found the lowest mapped page, or that none is mapped and so many of the tables needed below the level are absent;
-- where it says so, no table stands where blocks go
abbrev pub Finds : Layout → (tells alone : Type 0) → (v w : View) → Extent → (level cap : ℕ) → Found → Type 0
Finds f tells alone v w x level cap (Mapped page) = IsLowest f v x.first x.end page
Finds f tells alone v w x level cap (Absent count tables) =
    IsFree f v x.first x.end × Counted f tells alone v w (tables_below f x level) cap count × (tables ≡ false → HasNoneReplaced f v (tiles f x))

-- an extent was looked through, from view v to view w: a walk that ends where it began
pub record Surveyed (f : Layout) (tells alone : Type 0) (v w : View) (x : Extent) (level cap : ℕ) (found : Found) : Type 0 where
  pub walked : ByLoads tells v w
  pub path : w.path ≡ v.path
  pub finds : Finds f tells alone v w x level cap found

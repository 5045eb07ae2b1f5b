-- A map past the pages that the root reaches: the top is raised over them.
use Rattle.std.specs.Prelude.{◌≡◌, ◌⊎◌, ◌↔◌, ℕ, ◌+◌, ◌-◌, ◌<◌, ◌≤◌, IsTrue, Bool, List, ◌++◌, false, length, map, max, min, not, ◌&&◌, filter, None, Result, Ok, Err}
use Rattle.pt_model.specs.declared.position.Position.{Position}
use Rattle.pt_model.specs.Layout.{Layout, pages_of_table}
use Rattle.pt_model.specs.Pages.{byte_at}
use Rattle.pt_model.specs.Sets.{IsAmong, IsSorted, places}
use Rattle.pt_model.specs.Tables.{all_needed, end_of_table, is_spine, least_top}
use Rattle.pt_tile.specs.declared.extent.Extent.{Extent}
use Rattle.pt_tile.specs.Extents.{IsExtent, tables_of, tiles}
use Rattle.pt_view.specs.declared.view.View.{View}
use Rattle.pt_view.specs.declared.view.Absence.{Absence}
use Rattle.pt_view.specs.declared.view.Change.TheVariants.{Written}
use Rattle.pt_view.specs.Calls.{IsRootAt}
use Rattle.pt_view.specs.Lists.{IsIn}
use Rattle.pt_view.specs.Loads.{ByLoads}
use Rattle.pt_view.specs.Pieces.{add_pieces, all_pieces}
use Rattle.pt_view.specs.Views.{SameRange}
use Rattle.pt_walk.specs.Walks.{IsFree, IsLowest, OwnsAll}
use Rattle.pt_sweep.specs.Sweeps.{IsBookTable}
use Rattle.pt_sweep.specs.Raises.{AtRoot}
use Rattle.pt_map.specs.declared.refused.MapRefused.{MapRefused}
use Rattle.pt_map.specs.declared.refused.MapRefused.TheVariants as refused
use Rattle.pt_map.specs.declared.survey.Found.{Found}
use Rattle.pt_map.specs.declared.survey.Found.TheVariants.{Mapped, Absent}
use Rattle.pt_map.specs.Absent.{Counted, is_shown}
use Rattle.pt_map.specs.Answers.{IsRefused, KeepsPurse}
use Rattle.pt_map.specs.Past.{past_root, reaches_past}
use Rattle.pt_map.specs.Replaced.{HasNoneReplaced, is_replaced, replaced}
use Rattle.pt_map.specs.Requests.{AreAbsent, LacksFrames}

-- the needed tables under the root and off the spine
abbrev pub near_root : Layout → (levels root : ℕ) → Extent → List Position
near_root f levels root x = filter (λ p. not (reaches_past f root p) && not (is_spine levels p)) (all_needed f levels (tiles f x))

-- An extent may be mapped from the root, which is too low for it: no table of the book reaches past the root's pages.
pub record MayMapBeyond (f : Layout) (v : View) (x : Extent) (root : ℕ) : Type 0 where
  pub at : AtRoot f v root
  pub extent : IsExtent f x
  pub past : pages_of_table f root < x.end
  pub from : v.first ≤ x.first
  pub to : x.end ≤ v.first + v.count
  pub start : f.start ≤ v.levels
  pub few : v.levels ≤ f.levels
  pub owns : OwnsAll f v
  pub tables : (p : Position) → IsAmong v.tables p → IsBookTable f v p
  pub once : (p : Position) → places p v.tables < 2
  pub over_tables : (p : Position) → IsAmong v.tables p → end_of_table f p ≤ pages_of_table f root

-- What lies under the root was looked through: the lowest mapped page, or that none is mapped, so many of the tables needed
-- there are absent, and whether tables stand where blocks go.
abbrev pub FindsNear : Layout → (tells alone : Type 0) → (v w : View) → Extent → (root cap : ℕ) → Found → Type 0
FindsNear f tells alone v w x root cap (Mapped page) = IsLowest f v x.first x.end page
FindsNear f tells alone v w x root cap (Absent count tables) =
    IsFree f v x.first x.end × Counted f tells alone v w (near_root f v.levels root x) cap count × (tables ≡ false → HasNoneReplaced f v (tiles f x))

pub record SurveyedNear (f : Layout) (tells alone : Type 0) (v w : View) (x : Extent) (root cap : ℕ) (found : Found) : Type 0 where
  pub walked : ByLoads tells v w
  pub path : w.path ≡ v.path
  pub finds : FindsNear f tells alone v w x root cap found

-- way may be made for an extent of which no page is mapped
pub record MayMakeWayNear (f : Layout) (v : View) (x : Extent) (root : ℕ) (tables : Bool) : Type 0 where
  pub may : MayMapBeyond f v x root
  pub free : IsFree f v x.first x.end
  pub none : tables ≡ false → HasNoneReplaced f v (tiles f x)

-- An extent was mapped, from view v to view w, whose path is the root's table. Frames were drawn for the tables that were
-- found absent under the root and for those past it, no more than the purse lacked, and no more were linked; over a lone
-- holder there were frames for all that is linked before and for these. The tables that blocks take the place of are gone,
-- and their frames came in front of the purse before one was linked.
pub record MappedBeyond (f : Layout) (tells alone : Type 0) (linked : ℕ) (v w : View) (x : Extent) (root : ℕ) : Type 0 where
  pub free : IsFree f v x.first x.end
  pub absent : List Position
  pub are_absent : AreAbsent alone v (near_root f v.levels root x) absent
  pub freed : List ℕ
  pub drawn : List ℕ
  pub used : List ℕ
  pub purse : freed ++ (drawn ++ v.purse) ≡ used ++ w.purse
  pub back : length (replaced f v (tiles f x)) ≤ length freed
  pub only : alone → length freed ≡ length (replaced f v (tiles f x))
  pub spared : length drawn ≤ (length absent + length (past_root f v.levels root x)) - length v.purse
  pub few : length used ≤ length absent + length (past_root f v.levels root x)
  pub capped : length absent + length (past_root f v.levels root x) ≤ v.frames
  pub room : alone → linked + (length absent + length (past_root f v.levels root x)) ≤ v.frames
  pub range : SameRange v w
  pub path : (level : ℕ) × IsRootAt w level
  pub prepared : w.prepared ≡ None
  pub end : w.end ≡ v.end
  pub top : w.top ≡ max v.top (least_top f v.levels x.end)
  pub pieces : w.pieces ≡ add_pieces f v.pieces (all_pieces f (tiles f x))
  pub tables : (p : Position) → IsAmong w.tables p ↔
      ((IsAmong v.tables p × (is_replaced f (tiles f x) p ≡ false)) ⊎ (IsAmong (tables_of f x) p × (is_spine v.levels p ≡ false)))
  pub in_order : IsSorted v.tables → IsSorted w.tables
  pub busy : (frame : ℕ) → IsIn v.busy frame → IsIn w.busy frame
  pub known : (p : Position) → IsAmong v.known p → is_replaced f (tiles f x) p ≡ false → IsAmong w.known p
  pub shown : tells → (facts : List Absence) × (w.absent ≡ v.absent ++ facts) × ((p : Position) → IsAmong absent p → IsTrue (is_shown f facts p))
  pub taken : tells → (lost : List ℕ) × (w.taken ≡ v.taken ++ lost)
  pub stores : tells → w.stores ≡ v.stores ++ map Written (all_pieces f (tiles f x))

-- so many tables were found absent under the root, and with those past it frames lack
pub record LacksBeyond (f : Layout) (tells alone : Type 0) (linked : ℕ) (v w : View) (x : Extent) (root absent held : ℕ) : Type 0 where
  pub free : IsFree f v x.first x.end
  pub near : ℕ
  pub counted : Counted f tells alone v w (near_root f v.levels root x) (v.frames + 1) near
  pub sum : absent ≡ min (v.frames + 1) (near + length (past_root f v.levels root x))
  pub lacks : LacksFrames tells alone linked v w absent held

-- why it wasn't mapped
abbrev pub HasCauseBeyond : Layout → (tells alone : Type 0) → (linked : ℕ) → (v w : View) → Extent → (root : ℕ) → MapRefused → Type 0
HasCauseBeyond f tells alone linked v w x root (refused.Occupied address) = (page : ℕ) × (address ≡ byte_at f page) × IsLowest f v x.first x.end page
HasCauseBeyond f tells alone linked v w x root (refused.NoFrames absent held) = LacksBeyond f tells alone linked v w x root absent held
HasCauseBeyond f tells alone linked v w x root _ = ⊥

pub record RefusedBeyond (f : Layout) (tells alone : Type 0) (linked : ℕ) (v w : View) (x : Extent) (root : ℕ) (e : MapRefused) : Type 0 where
  pub stays : IsRefused f tells v w
  pub purse : KeepsPurse v w e
  pub cause : HasCauseBeyond f tells alone linked v w x root e

abbrev pub EndsBeyond : Layout → (tells alone : Type 0) → (linked : ℕ) → (v w : View) → Extent → (root : ℕ) → Result (Unit {0}) MapRefused → Type 0
EndsBeyond f tells alone linked v w x root (Ok done) = MappedBeyond f tells alone linked v w x root
EndsBeyond f tells alone linked v w x root (Err e) = RefusedBeyond f tells alone linked v w x root e

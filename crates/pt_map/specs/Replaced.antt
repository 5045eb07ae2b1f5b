-- The tables that the blocks of an extent take the place of, and their unlinking.
use Rattle.std.specs.Prelude.{◌≡◌, ℕ, ◌≤◌, nat_le, nat_lt, ◌&&◌, Bool, false, filter, List}
use Rattle.std.specs.List.{list_any}
use Rattle.pt_model.specs.declared.block.Block.{Block}
use Rattle.pt_model.specs.declared.position.Position.{Position}
use Rattle.pt_model.specs.Layout.{Layout, end_of, level_of_size}
use Rattle.pt_model.specs.Sets.{IsAmong}
use Rattle.pt_tile.specs.declared.extent.Extent.{Extent}
use Rattle.pt_view.specs.declared.view.View.{View}
use Rattle.pt_sweep.specs.Empties.{Unlinks}
use Rattle.pt_sweep.specs.EmptyRanges.{IsEmptyRange}
use Rattle.pt_tile.specs.Extents.{tiles}
use Rattle.pt_map.specs.Stands.{IsExtentAt}
use Rattle.pt_map.specs.Filled.{MayStoreRun, StoresRun}

-- whether a table begins in a block, and is of a level below that of the table in which the block stands
abbrev pub is_table_in : Layout → Position → Block → Bool
is_table_in f p b = nat_lt p.level (level_of_size f b.log2) && (nat_le b.first p.base && nat_lt p.base (end_of b))

-- whether one of these blocks takes the place of a table
abbrev pub is_replaced : Layout → List Block → Position → Bool
is_replaced f blocks p = list_any (is_table_in f p) blocks

-- the tables of the book that they take the place of; none of them
abbrev pub replaced : Layout → View → List Block → List Position
replaced f v blocks = filter (is_replaced f blocks) v.tables

abbrev pub HasNoneReplaced : Layout → View → List Block → Type 0
HasNoneReplaced f v blocks = (p : Position) → IsAmong v.tables p → is_replaced f blocks p ≡ false

-- way may be made for an extent of which no page is mapped, from the path's last table, of this level
pub record MayMakeWay (f : Layout) (v : View) (x : Extent) (level : ℕ) : Type 0 where
  pub at : IsExtentAt f v x level
  pub levels : f.start ≤ v.levels
  pub empty : IsEmptyRange f v x.first x.end v.levels

-- the tables that blocks take the place of were unlinked
abbrev pub UnlinksReplaced : Layout → (tells alone : Type 0) → List Block → (v w : View) → Type 0
UnlinksReplaced f tells alone blocks v w = Unlinks f tells alone (is_replaced f blocks) v w

-- the tables that an extent's block takes the place of were unlinked, and the block's word was stored then
pub record PutsBlock (f : Layout) (tells alone : Type 0) (v w : View) (x : Extent) (b : Block) : Type 0 where
  pub between : View
  pub unlinks : UnlinksReplaced f tells alone (tiles f x) v between
  pub stored : StoresRun f tells between w 1 b

-- once no table stands where an extent's block goes, the block may be stored
abbrev pub MayPutBlock : Layout → (tells alone : Type 0) → View → Extent → Block → (level : ℕ) → Type 0
MayPutBlock f tells alone v x b level = (w : View) → UnlinksReplaced f tells alone (tiles f x) v w → MayStoreRun f w 1 b level

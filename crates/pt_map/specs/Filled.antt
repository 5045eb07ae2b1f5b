-- What the writing of an extent does to a view.
use Rattle.std.specs.Prelude.{◌≡◌, ◌⊎◌, ◌↔◌, ℕ, ◌+◌, ◌-◌, ◌<◌, ◌≤◌, List, [], ◌∷◌, ◌++◌, length, map, max, fold, false, None}
use Rattle.pt_model.specs.declared.block.Block.{Block}
use Rattle.pt_model.specs.declared.position.Position.{Position}
use Rattle.pt_model.specs.Layout.{Layout, end_of, input_pages, level_of_size}
use Rattle.pt_model.specs.Sets.{AddsPositions, IsAmong, IsSorted}
use Rattle.pt_model.specs.Tables.{is_spine, least_top, position_over}
use Rattle.pt_tile.specs.declared.extent.Extent.{Extent}
use Rattle.pt_tile.specs.Extents.{IsOneBlock, blocks_of, extent_of, tables_below, tables_of, tiles}
use Rattle.pt_view.specs.declared.view.View.{View}
use Rattle.pt_view.specs.declared.view.Change.TheVariants.{Written}
use Rattle.pt_view.specs.Lists.{SameFrames}
use Rattle.pt_view.specs.Pieces.{add_pieces, all_pieces, entry_number}
use Rattle.pt_view.specs.Loads.{AddsAbsences, IsInSpan, IsOver}
use Rattle.pt_view.specs.Views.{SameRange}
use Rattle.pt_view.specs.Calls.{pieces_at, with_table}
use Rattle.pt_map.specs.Stands.{StandsAt}

-- a table begins in a block, and is one of those below the table in which the block stands
abbrev pub IsTableIn : Layout → Block → Position → Type 0
IsTableIn f b p = (p.level < level_of_size f b.log2) × (b.first ≤ p.base) × (p.base < end_of b)

-- no piece stands at an entry over a page of a range, in a table of any level
abbrev pub HasNoPiece : Layout → View → (first end : ℕ) → Type 0
HasNoPiece f v first end =
    (page level : ℕ) → first ≤ page → page < end → pieces_at f (position_over f page level) (entry_number f level page) v.pieces ≡ 0

-- the words of an extent may be stored from the path's last table on down: no page of it is mapped, and no table of the
-- book lies under an entry that a block of it takes
pub record MayStore (f : Layout) (v : View) (x : Extent) (level : ℕ) : Type 0 where
  pub stands : StandsAt f v x level
  pub no_piece : HasNoPiece f v x.first x.end
  pub no_table : (p : Position) → IsAmong v.tables p → (b : Block) → IsOneBlock (tiles f x) b → ¬ IsTableIn f b p

-- each needed position is known or is one of the lacking ones, and the purse has a frame for each of these
pub record HasRoom (v : View) (needed lacking : List Position) : Type 0 where
  pub each : (p : Position) → IsAmong needed p → IsAmong v.known p ⊎ IsAmong lacking p
  pub frames : length lacking ≤ length v.purse

-- an extent may be written from there, with the tables that it needs below the level
pub record MayFill (f : Layout) (v : View) (x : Extent) (level : ℕ) : Type 0 where
  pub store : MayStore f v x level
  pub lacking : List Position
  pub room : HasRoom v (tables_below f x level) lacking

-- so many equal blocks, of which this is the first, may be stored in that table
pub record MayStoreRun (f : Layout) (v : View) (count : ℕ) (b : Block) (level : ℕ) : Type 0 where
  pub may : MayStore f v (extent_of count b) level
  pub tiled : tiles f (extent_of count b) ≡ blocks_of count b
  pub here : level_of_size f b.log2 ≡ level

-- the way to a page may go on from the path's last table, of this level, by a table under its entry
pub record MayGoInto (f : Layout) (v : View) (page level : ℕ) : Type 0 where
  pub high : 0 < level
  pub below : level < f.levels
  pub a_page : page < input_pages f
  pub in_span : IsInSpan v page
  pub over : IsOver f v page level
  pub no_piece : pieces_at f (position_over f page level) (entry_number f level page) v.pieces ≡ 0
  pub none : v.prepared ≡ None

-- the table over a page one level below another
abbrev pub next_table : Layout → (page level : ℕ) → Position
next_table f page level = position_over f page (level - 1)

-- the path went on into it, which was linked before or is now
pub record IsDeeper (f : Layout) (tells : Type 0) (v w : View) (page level : ℕ) : Type 0 where
  pub range : SameRange v w
  pub pieces : w.pieces ≡ v.pieces
  pub top : w.top ≡ v.top
  pub prepared : w.prepared ≡ v.prepared
  pub end : w.end ≡ v.end
  pub path : (frame : ℕ) × (w.path ≡ v.path ++ record { frame = frame; position = next_table f page level } ∷ [])
  pub tables : (w.tables ≡ v.tables) ⊎ (w.tables ≡ with_table v.levels v.tables (next_table f page level))
  pub busy : SameFrames v.busy w.busy
  pub known : AddsPositions v.known w.known (λ p. p ≡ next_table f page level)
  pub told : tells → (w.taken ≡ v.taken) × (w.stores ≡ v.stores)
  pub absent : tells → AddsAbsences v w

-- From view v to view w, whose purses have a frame for each lacking position, so many of which still lack: the frames
-- that were linked are those that the purse lost.
pub record Spends (v w : View) (lacking still : List Position) : Type 0 where
  pub used : List ℕ
  pub purse : v.purse ≡ used ++ w.purse
  pub few : length used + length still ≤ length lacking
  pub only : (p : Position) → IsAmong still p → IsAmong lacking p
  pub each : (p : Position) → IsAmong lacking p → IsAmong w.known p ⊎ IsAmong still p

-- wherever there is room for needed tables, frames are spent on the lacking ones alone
abbrev pub SpendsOn : (v w : View) → (needed : List Position) → Type 0
SpendsOn v w needed = (lacking : List Position) → HasRoom v needed lacking → (still : List Position) × Spends v w lacking still

-- the top, where it reaches over blocks
abbrev pub top_with : Layout → (levels top : ℕ) → List Block → ℕ
top_with f levels top blocks = fold (λ (t : ℕ) (b : Block). max t (least_top f levels (end_of b))) top blocks

-- blocks were written: their pieces are among the pieces, and the positions that they need among the tables
pub record Filled (f : Layout) (tells : Type 0) (v w : View) (blocks : List Block) (needed : List Position) : Type 0 where
  pub range : SameRange v w
  pub path : w.path ≡ v.path
  pub prepared : w.prepared ≡ v.prepared
  pub end : w.end ≡ v.end
  pub top : w.top ≡ top_with f v.levels v.top blocks
  pub pieces : w.pieces ≡ add_pieces f v.pieces (all_pieces f blocks)
  pub tables : (p : Position) → IsAmong w.tables p ↔ (IsAmong v.tables p ⊎ (IsAmong needed p × (is_spine v.levels p ≡ false)))
  pub in_order : IsSorted v.tables → IsSorted w.tables
  pub busy : SameFrames v.busy w.busy
  pub known : (p : Position) → IsAmong v.known p → IsAmong w.known p
  pub told : tells → (w.taken ≡ v.taken) × (w.stores ≡ v.stores ++ map Written (all_pieces f blocks))
  pub absent : tells → AddsAbsences v w

-- an extent was written from a table of this level on down, whose tables below it are known then
pub record Fills (f : Layout) (tells : Type 0) (v w : View) (x : Extent) (level : ℕ) : Type 0 where
  pub filled : Filled f tells v w (tiles f x) (tables_of f x)
  pub spends : SpendsOn v w (tables_below f x level)
  pub knows : (p : Position) → IsAmong (tables_below f x level) p → IsAmong w.known p

-- so many equal blocks were stored, and no frame was spent
pub record StoresRun (f : Layout) (tells : Type 0) (v w : View) (count : ℕ) (b : Block) : Type 0 where
  pub purse : w.purse ≡ v.purse
  pub filled : Filled f tells v w (blocks_of count b) (tables_of f (extent_of count b))

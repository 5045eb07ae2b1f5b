-- What the steps of a map do: the test of its numbers, the draw for absent tables, and the map from a table on down.
use Rattle.std.specs.Prelude.{◌≡◌, ◌⊎◌, ◌↔◌, ℕ, ◌+◌, ◌-◌, ◌<◌, ◌≤◌, IsTrue, List, ◌++◌, false, length, map, Option, option_map, Result, Ok, Err}
use Rattle.pt_model.specs.declared.block.Block.{Block}
use Rattle.pt_model.specs.declared.block.Prot.{Prot}
use Rattle.pt_model.specs.declared.position.Position.{Position}
use Rattle.pt_model.specs.Layout.{Layout}
use Rattle.pt_model.specs.Book.{Book, IsLawful, MapRefusal, Occupied, lowest_mapped, map_refusal}
use Rattle.pt_model.specs.Pages.{byte_at}
use Rattle.pt_model.specs.Sets.{IsAmong, IsSorted, places}
use Rattle.pt_model.specs.Tables.{is_spine}
use Rattle.pt_tile.specs.declared.extent.Extent.{Extent}
use Rattle.pt_tile.specs.Extents.{IsExtent, tables_below, tables_of, tiles}
use Rattle.pt_view.specs.declared.view.View.{View}
use Rattle.pt_view.specs.declared.view.Absence.{Absence}
use Rattle.pt_view.specs.declared.view.Change.TheVariants.{Written}
use Rattle.pt_view.specs.Lists.{IsIn}
use Rattle.pt_view.specs.Pieces.{add_pieces, all_pieces}
use Rattle.pt_view.specs.Views.{IsAtRest, SameRange, book_of}
use Rattle.pt_walk.specs.Walks.{Climbs, IsClear, IsFree, IsLowest, OwnsAll, Rests}
use Rattle.pt_sweep.specs.Draws.{KeepsBook, SamePlace}
use Rattle.pt_sweep.specs.Sweeps.{IsBookTable}
use Rattle.pt_map.specs.declared.refused.MapRefused.{MapRefused}
use Rattle.pt_map.specs.declared.refused.MapRefused.TheVariants as refused
use Rattle.pt_map.specs.Absent.{Counted, IsMissing, is_shown}
use Rattle.pt_map.specs.Answers.{FindsEach, IsRefused, KeepsPurse, extent_at, refusal_of}
use Rattle.pt_map.specs.Filled.{top_with}
use Rattle.pt_map.specs.Replaced.{is_replaced, replaced}
use Rattle.pt_map.specs.Stands.{IsOwnTable, StandsAt}

-- The numbers of a request.

-- a refusal of numbers alone
abbrev pub IsOfNumbers : MapRefused → Type 0
IsOfNumbers (refused.Occupied address) = ⊥
IsOfNumbers (refused.NoFrames absent held) = ⊥
IsOfNumbers _ = Unit {0}

-- a book of `count` pages from page `first`
abbrev pub Spans : Book → (first count : ℕ) → Type 0
Spans book first count = (book.first ≡ first) × (book.count ≡ count)

pub record IsRefusedByNumbers (f : Layout) (first count va pa len : ℕ) (e : MapRefused) : Type 0 where
  pub of_numbers : IsOfNumbers e
  pub refusal : (book : Book) → Spans book first count → map_refusal f book va pa len ≡ refusal_of e

-- the refusal of an extent whose numbers are in order: a page of it is mapped
abbrev pub occupied : Layout → Extent → Book → Option MapRefusal
occupied f x book = option_map (λ page. Occupied (byte_at f page)) (lowest_mapped book x.first x.end)

-- an extent lies inside a span of pages
pub record IsInside (f : Layout) (first count : ℕ) (x : Extent) : Type 0 where
  pub extent : IsExtent f x
  pub from : first ≤ x.first
  pub to : x.end ≤ first + count

-- it is what the numbers of a request ask for, and what may still refuse it is a mapped page
pub record IsRequested (f : Layout) (first count va pa len : ℕ) (prot : Prot) (x : Extent) : Type 0 where
  pub inside : IsInside f first count x
  pub is : x ≡ extent_at f va pa len prot
  pub refusal : (book : Book) → Spans book first count → map_refusal f book va pa len ≡ occupied f x book

-- an extent of a holder at rest may be mapped
pub record MayMap (f : Layout) (v : View) (x : Extent) : Type 0 where
  pub inside : IsInside f v.first v.count x
  pub rest : Rests f v
  pub levels : f.start ≤ v.levels
  pub lawful : (blocks : List Block) → IsAtRest f v blocks → IsLawful f v.levels (book_of v blocks)

-- The draw for absent tables.

-- the frames drawn, no more than the purse lacks, are in front of it, and the rest of the view stays
pub record Gathered (tells : Type 0) (v w : View) (absent : ℕ) : Type 0 where
  pub keeps : KeepsBook v w
  pub place : SamePlace v w
  pub busy : (frame : ℕ) → IsIn v.busy frame → IsIn w.busy frame
  pub absences : tells → w.absent ≡ v.absent
  pub taken : tells → (lost : List ℕ) × (w.taken ≡ v.taken ++ lost)
  pub stores : tells → w.stores ≡ v.stores
  pub drawn : List ℕ
  pub purse : w.purse ≡ drawn ++ v.purse
  pub spared : length drawn ≤ absent - length v.purse

-- a purse has fewer frames than tables are absent; nothing was drawn where all frames are too few; over a lone holder they
-- are, or each is linked or in the purse
pub record LacksFrames (tells alone : Type 0) (linked : ℕ) (v w : View) (absent held : ℕ) : Type 0 where
  pub more : held < absent
  pub held_is : held ≡ length w.purse
  pub idle : v.frames < absent → w.purse ≡ v.purse
  pub tried : tells → (v.frames < absent) ⊎ FindsEach v w
  pub all : alone → (v.frames < absent) ⊎ (linked + length w.purse ≡ v.frames)

abbrev pub IsLackOf : (tells alone : Type 0) → (linked : ℕ) → (v w : View) → (absent : ℕ) → MapRefused → Type 0
IsLackOf tells alone linked v w absent (refused.NoFrames count held) = (count ≡ absent) × LacksFrames tells alone linked v w absent held
IsLackOf tells alone linked v w absent _ = ⊥

-- the purse has a frame for each absent table, and all frames are no fewer; over a lone holder these and the linked ones
-- are no more than there are
pub record HasFrames (alone : Type 0) (linked : ℕ) (v w : View) (absent : ℕ) : Type 0 where
  pub held : absent ≤ length w.purse
  pub frames : absent ≤ v.frames
  pub few : alone → linked + length w.purse ≤ v.frames

abbrev pub Gathers : (tells alone : Type 0) → (linked : ℕ) → (v w : View) → (absent : ℕ) → Result (Unit {0}) MapRefused → Type 0
Gathers tells alone linked v w absent (Ok done) = Gathered tells v w absent × HasFrames alone linked v w absent
Gathers tells alone linked v w absent (Err e) = Gathered tells v w absent × IsLackOf tells alone linked v w absent e

-- The map from a table on down.

-- an extent may be mapped from the path's last table, of this level, which is the lowest one over all of it that is linked
pub record MayMapBelow (f : Layout) (v : View) (x : Extent) (level : ℕ) : Type 0 where
  pub stands : StandsAt f v x level
  pub owns : OwnsAll f v
  pub clear : IsClear f v x.first x.end level
  pub levels : f.start ≤ v.levels
  pub tables : (p : Position) → IsAmong v.tables p → IsBookTable f v p
  pub once : (p : Position) → places p v.tables < 2

-- Needed positions that were found absent, each once: none is a table of the book, of the spine or known, and over a lone
-- holder those that aren't among them are tables of the book or of the spine.
pub record AreAbsent (alone : Type 0) (v : View) (needed absent : List Position) : Type 0 where
  pub once : (p : Position) → places p absent ≤ 1
  pub missing : (p : Position) → IsAmong absent p → IsMissing v needed p
  pub all : alone → (p : Position) → IsAmong needed p → IsAmong absent p ⊎ IsOwnTable v p

-- An extent was mapped, from view v to view w. Frames were drawn for the absent tables, no more than the purse lacked, and
-- no more were linked; over a lone holder there were frames for all that is linked before and for these tables. The tables
-- that blocks take the place of are gone, and their frames came in front of the purse before one was linked. Where it is
-- told what loads showed, each of the absent tables was shown absent.
pub record MappedBelow (f : Layout) (tells alone : Type 0) (linked : ℕ) (v w : View) (x : Extent) (level : ℕ) : Type 0 where
  pub free : IsFree f v x.first x.end
  pub absent : List Position
  pub are_absent : AreAbsent alone v (tables_below f x level) absent
  pub freed : List ℕ
  pub drawn : List ℕ
  pub used : List ℕ
  pub purse : freed ++ (drawn ++ v.purse) ≡ used ++ w.purse
  pub back : length (replaced f v (tiles f x)) ≤ length freed
  pub only : alone → length freed ≡ length (replaced f v (tiles f x))
  pub spared : length drawn ≤ length absent - length v.purse
  pub few : length used ≤ length absent
  pub capped : length absent ≤ v.frames
  pub room : alone → linked + length absent ≤ v.frames
  pub range : SameRange v w
  pub path : w.path ≡ v.path
  pub prepared : w.prepared ≡ v.prepared
  pub end : w.end ≡ v.end
  pub top : w.top ≡ top_with f v.levels v.top (tiles f x)
  pub pieces : w.pieces ≡ add_pieces f v.pieces (all_pieces f (tiles f x))
  pub tables : (p : Position) → IsAmong w.tables p ↔
      ((IsAmong v.tables p × (is_replaced f (tiles f x) p ≡ false)) ⊎ (IsAmong (tables_of f x) p × (is_spine v.levels p ≡ false)))
  pub in_order : IsSorted v.tables → IsSorted w.tables
  pub busy : (frame : ℕ) → IsIn v.busy frame → IsIn w.busy frame
  pub known : (p : Position) → IsAmong v.known p → is_replaced f (tiles f x) p ≡ false → IsAmong w.known p
  pub shown : tells → (facts : List Absence) × (w.absent ≡ v.absent ++ facts) × ((p : Position) → IsAmong absent p → IsTrue (is_shown f facts p))
  pub taken : tells → (lost : List ℕ) × (w.taken ≡ v.taken ++ lost)
  pub stores : tells → w.stores ≡ v.stores ++ map Written (all_pieces f (tiles f x))

-- why it wasn't mapped: its lowest page that is mapped, or the absent tables for which frames lack
abbrev pub HasCause : Layout → (tells alone : Type 0) → (linked : ℕ) → (v w : View) → Extent → (level : ℕ) → MapRefused → Type 0
HasCause f tells alone linked v w x level (refused.Occupied address) = (page : ℕ) × (address ≡ byte_at f page) × IsLowest f v x.first x.end page
HasCause f tells alone linked v w x level (refused.NoFrames absent held) =
    IsFree f v x.first x.end × Counted f tells alone v w (tables_below f x level) (v.frames + 1) absent × LacksFrames tells alone linked v w absent held
HasCause f tells alone linked v w x level _ = ⊥

pub record RefusedBelow (f : Layout) (tells alone : Type 0) (linked : ℕ) (v w : View) (x : Extent) (level : ℕ) (e : MapRefused) : Type 0 where
  pub stays : IsRefused f tells v w
  pub purse : KeepsPurse v w e
  pub cause : HasCause f tells alone linked v w x level e

-- how a map from a table on down ends, where so many positions were linked before
abbrev pub EndsBelow : Layout → (tells alone : Type 0) → (linked : ℕ) → (v w : View) → Extent → (level : ℕ) → Result (Unit {0}) MapRefused → Type 0
EndsBelow f tells alone linked v w x level (Ok done) = MappedBelow f tells alone linked v w x level
EndsBelow f tells alone linked v w x level (Err e) = RefusedBelow f tells alone linked v w x level e

-- an extent is mapped or refused from the path's last table, of this level, and so many tables are left then
pub record EndsAbove (f : Layout) (tells alone : Type 0) (linked : ℕ) (v w : View) (x : Extent) (level tables : ℕ) (r : Result (Unit {0}) MapRefused) : Type 0 where
  pub between : View
  pub ends : EndsBelow f tells alone linked v between x level r
  pub left : Climbs between tables w

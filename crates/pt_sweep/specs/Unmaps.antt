-- What the taking away of a range of pages answers, and what it does to a view.
use Rattle.std.specs.Prelude.{◌≡◌, ℕ, ◌+◌, ◌/◌, ◌^◌, ◌<◌, ◌≤◌, option_map, ◌&&◌, false, filter, find, map, List, ◌++◌, Option, Some, None, Result, Ok, Err}
use Rattle.pt_model.specs.declared.block.Block.{Block}
use Rattle.pt_model.specs.declared.position.Position.{Position}
use Rattle.pt_model.specs.Layout.{Layout}
use Rattle.pt_model.specs.Pages.{page_under}
use Rattle.pt_model.specs.Sets.{IsAmong}
use Rattle.pt_model.specs.Book.{Book, lies_in, meets, table_lies_in}
use Rattle.pt_model.specs.Unmap.{CutRefusal, Misaligned, OutsideLease, CutsEntry, is_cut, lowest_cut, pages_gone, unmap_refusal, unmapped}
use Rattle.pt_view.specs.declared.view.View.{View}
use Rattle.pt_view.specs.declared.view.Change.TheVariants.{Cleared}
use Rattle.pt_view.specs.Lists.{SameFrames}
use Rattle.pt_view.specs.Loads.{AddsAbsences, ByLoads}
use Rattle.pt_view.specs.Pieces.{all_pieces}
use Rattle.pt_view.specs.Views.{IsAtRest, SameRange, book_of}
use Rattle.pt_walk.specs.RangeWalks.{rested}
use Rattle.pt_num.specs.declared.Span.{Span}
use Rattle.pt_sweep.specs.Empties.{Frees}
use Rattle.pt_sweep.specs.Sweeps.{SweepsBelow, SweepsIn}
use Rattle.pt_sweep.specs.declared.refused.UnmapRefused.{UnmapRefused}
use Rattle.pt_sweep.specs.declared.refused.UnmapRefused.TheVariants as refused

-- the refusal of the book machine that an answer is
abbrev pub refusal_of : UnmapRefused → CutRefusal
refusal_of refused.Misaligned = Misaligned
refusal_of refused.OutsideLease = OutsideLease
refusal_of (refused.CutsEntry block) = CutsEntry block

-- a range of pages is that of a request of whole pages, inside a span
pub record IsRange (f : Layout) (first count va len : ℕ) (range : Span) : Type 0 where
  pub at : (range.first ≡ page_under f va) × (range.count ≡ len / 2 ^ f.granule)
  pub some : 0 < range.count
  pub from : first ≤ range.first
  pub to : range.first + range.count ≤ first + count
  pub refusal : (book : Book) → book.first ≡ first → book.count ≡ count →
      unmap_refusal f book va len ≡ option_map CutsEntry (lowest_cut book range.first (range.first + range.count))

pub record IsRefusedByNumbers (f : Layout) (first count va len : ℕ) (why : UnmapRefused) : Type 0 where
  pub refusal : (book : Book) → book.first ≡ first → book.count ≡ count → unmap_refusal f book va len ≡ Some (refusal_of why)

-- the lowest block that a range cuts, by the book of a view at rest
abbrev pub FindsCut : Layout → View → (first count : ℕ) → Option Block → Type 0
FindsCut f v first count found = (blocks : List Block) → IsAtRest f v blocks → found ≡ lowest_cut (book_of v blocks) first (first + count)

-- the same of a block over one page of a range
abbrev pub FindsCutOver : Layout → View → (page first end : ℕ) → Option Block → Type 0
FindsCutOver f v page first end found =
    (blocks : List Block) → IsAtRest f v blocks → found ≡ find (λ b. meets page (page + 1) b && is_cut first end b) blocks

-- at rest the book has no block that a range cuts
abbrev pub CutsNoBlock : Layout → View → (first end : ℕ) → Type 0
CutsNoBlock f v first end = (blocks : List Block) → IsAtRest f v blocks → lowest_cut (book_of v blocks) first end ≡ None

-- a range under one entry was swept, and no block was cut; or nothing was done but loads
abbrev pub ClearsEntry : Layout → (tells alone : Type 0) → (first end level : ℕ) → (v w : View) → Option ℕ → Type 0
ClearsEntry f tells alone first end level v w None = ByLoads tells v w × (w.path ≡ v.path)
ClearsEntry f tells alone first end level v w (Some pages) = CutsNoBlock f (rested v) first end × SweepsBelow f tells alone first end level v w pages

abbrev pub UnmapsEntry : Layout → (tells alone : Type 0) → (first count : ℕ) → (v w : View) → Option ℕ → Type 0
UnmapsEntry f tells alone first count v w None = ByLoads tells v w × (w.path ≡ v.path)
UnmapsEntry f tells alone first count v w (Some pages) = CutsNoBlock f v first (first + count) × SweepsIn f tells alone first count v w pages

-- the book after a range is taken away, and the blocks that go
abbrev pub book_without : Layout → View → List Block → (first count : ℕ) → Book
book_without f v blocks first count = unmapped f (book_of v blocks) first count

abbrev pub blocks_gone : List Block → (first count : ℕ) → List Block
blocks_gone blocks first count = filter (lies_in first (first + count)) blocks

-- The pages of a range went: the holder is at rest with the book after it, and the frames of the tables that went are in
-- front of the purse.
pub record IsUnmapped (f : Layout) (tells alone : Type 0) (v w : View) (blocks : List Block) (first size many : ℕ) : Type 0 where
  pub range : SameRange v w
  pub rest : IsAtRest f w (book_without f v blocks first size).blocks
  pub tables : w.tables ≡ (book_without f v blocks first size).tables
  pub top : w.top ≡ v.top
  pub pages : many ≡ pages_gone (book_of v blocks) first size
  pub purse : (frames : List ℕ) × (w.purse ≡ frames ++ v.purse)
  pub frees : Frees alone v w
  pub busy : SameFrames v.busy w.busy
  pub known : (q : Position) → IsAmong v.known q → table_lies_in f first (first + size) q ≡ false → IsAmong w.known q
  pub taken : tells → w.taken ≡ v.taken
  pub absent : tells → AddsAbsences v w
  pub stores : tells → w.stores ≡ v.stores ++ map Cleared (all_pieces f (blocks_gone blocks first size))

-- A refusal is the book machine's, and only loads were made.
pub record RefusesUnmap (f : Layout) (tells : Type 0) (v w : View) (va len : ℕ) (why : UnmapRefused) : Type 0 where
  pub loads : ByLoads tells v w
  pub path : w.path ≡ v.path
  pub refusal : (blocks : List Block) → IsAtRest f v blocks → unmap_refusal f (book_of v blocks) va len ≡ Some (refusal_of why)

-- at Ok the book machine refuses nothing, and the range was taken away
abbrev pub AnswersUnmap : Layout → (tells alone : Type 0) → (v w : View) → (va len : ℕ) → Result ℕ UnmapRefused → Type 0
AnswersUnmap f tells alone v w va len (Ok pages) =
    (blocks : List Block) → IsAtRest f v blocks →
    (unmap_refusal f (book_of v blocks) va len ≡ None) × IsUnmapped f tells alone v w blocks (page_under f va) (len / 2 ^ f.granule) pages
AnswersUnmap f tells alone v w va len (Err why) = RefusesUnmap f tells v w va len why

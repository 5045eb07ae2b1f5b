-- The sweep of a range of pages: the blocks and the tables that lie in it go.
use Rattle.std.specs.Prelude.{◌≡◌, ◌⊎◌, ℕ, ◌+◌, ◌%◌, ◌<◌, ◌≤◌, nat_le, nat_lt, ◌&&◌, Bool, false, not, filter, map, List, [], ◌∷◌, ◌++◌, None}
use Rattle.pt_model.specs.declared.position.Position.{Position}
use Rattle.pt_model.specs.Layout.{Layout, pages_of_entry, pages_of_table}
use Rattle.pt_model.specs.Tables.{is_spine}
use Rattle.pt_model.specs.Sets.{IsAmong, places}
use Rattle.pt_model.specs.Book.{table_lies_in}
use Rattle.pt_view.specs.declared.view.View.{View}
use Rattle.pt_view.specs.declared.view.Piece.{Piece}
use Rattle.pt_view.specs.declared.view.Change.TheVariants.{Cleared}
use Rattle.pt_view.specs.Lists.{SameFrames}
use Rattle.pt_view.specs.Pieces.{IsOneOf, first_of, level_of}
use Rattle.pt_view.specs.Views.{SameRange}
use Rattle.pt_view.specs.Loads.{AddsAbsences}
use Rattle.pt_walk.specs.Walks.{IsClear, OwnsAll}
use Rattle.pt_sweep.specs.Empties.{Frees, lies_below}

-- the page after the last one under a piece
abbrev pub end_of_piece : Layout → Piece → ℕ
end_of_piece f x = first_of f x + pages_of_entry f (level_of f x)

-- whether a piece begins in a range
abbrev pub begins_in : Layout → (first end : ℕ) → Piece → Bool
begins_in f first end x = nat_le first (first_of f x) && nat_lt (first_of f x) end

-- a piece has no pages both in a range and outside it: it lies before the range, behind it or in it
abbrev pub IsUncut : Layout → (first end : ℕ) → Piece → Type 0
IsUncut f first end x = (end_of_piece f x ≤ first) ⊎ ((end ≤ first_of f x) ⊎ ((first ≤ first_of f x) × (end_of_piece f x ≤ end)))

abbrev pub CutsNone : Layout → View → (first end : ℕ) → Type 0
CutsNone f v first end = (x : Piece) → IsOneOf v.pieces x → IsUncut f first end x

-- pieces from a page on, each behind the one before
abbrev pub AreApart : Layout → (from : ℕ) → List Piece → Type 0
AreApart f from [] = Unit {0}
AreApart f from (x ∷ xs) = (from ≤ first_of f x) × AreApart f (end_of_piece f x) xs

-- the pages under pieces
abbrev pub pages_under : Layout → List Piece → ℕ
pages_under f [] = 0
pages_under f (x ∷ xs) = pages_of_entry f (level_of f x) + pages_under f xs

-- a table of a book: off the spine, and at a multiple of its pages
pub record IsBookTable (f : Layout) (v : View) (q : Position) : Type 0 where
  pub off_spine : is_spine v.levels q ≡ false
  pub aligned : q.base % pages_of_table f q.level ≡ 0

-- a range that cuts no piece may be swept: the book's pieces are apart, and its tables are each there once
pub record MaySweep (f : Layout) (v : View) (first end levels : ℕ) : Type 0 where
  pub owns : OwnsAll f v
  pub apart : AreApart f 0 v.pieces
  pub uncut : CutsNone f v first end
  pub tables : (q : Position) → IsAmong v.tables q → IsBookTable f v q
  pub once : (q : Position) → places q v.tables < 2
  pub levels_are : levels ≡ v.levels
  pub none : v.prepared ≡ None

-- the same from the path's last table, of a level: no piece of a higher level has a page of the range
pub record MaySweepBelow (f : Layout) (v : View) (first end levels level : ℕ) : Type 0 where
  pub may : MaySweep f v first end levels
  pub clear : IsClear f v first end level

-- The book loses the tables and the pieces that pass two tests, and so many pages with these; the purse gets frames in
-- front, one for each table that the book loses; the positions known to be linked that don't pass stay known.
pub record Sweeps (f : Layout) (tells alone : Type 0) (passes : Position → Bool) (goes : Piece → Bool) (v w : View) (many : ℕ) : Type 0 where
  pub range : SameRange v w
  pub pieces : w.pieces ≡ filter (λ x. not (goes x)) v.pieces
  pub top : w.top ≡ v.top
  pub tables : w.tables ≡ filter (λ q. not (passes q)) v.tables
  pub path : w.path ≡ v.path
  pub prepared : w.prepared ≡ v.prepared
  pub end : w.end ≡ v.end
  pub busy : SameFrames v.busy w.busy
  pub known : (q : Position) → IsAmong v.known q → passes q ≡ false → IsAmong w.known q
  pub purse : (frames : List ℕ) × (w.purse ≡ frames ++ v.purse)
  pub frees : Frees alone v w
  pub taken : tells → w.taken ≡ v.taken
  pub stores : tells → w.stores ≡ v.stores ++ map Cleared (filter goes v.pieces)
  pub absent : tells → AddsAbsences v w
  pub pages : many ≡ pages_under f (filter goes v.pieces)

-- of a range, what is below the path's last table, of a level, and all
abbrev pub SweepsBelow : Layout → (tells alone : Type 0) → (first end level : ℕ) → (v w : View) → (pages : ℕ) → Type 0
SweepsBelow f tells alone first end level v w pages = Sweeps f tells alone (lies_below f first end level) (begins_in f first end) v w pages

abbrev pub SweepsIn : Layout → (tells alone : Type 0) → (first count : ℕ) → (v w : View) → (pages : ℕ) → Type 0
SweepsIn f tells alone first count v w pages =
    Sweeps f tells alone (table_lies_in f first (first + count)) (begins_in f first (first + count)) v w pages

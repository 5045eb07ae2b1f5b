-- The way down to a page, and what a range's pages are mapped to.
use Rattle.std.specs.Prelude.{◌≡◌, ◌⊎◌, ℕ, ◌+◌, ◌-◌, ◌*◌, ◌/◌, ◌%◌, ◌^◌, ◌<◌, ◌≤◌, ◌==◌, List, [], ◌∷◌, ◌++◌, length, Option, None, Some, MatchOption, IsTrue, if◌then◌else◌, ⊤}
use Rattle.pt_model.specs.declared.block.Prot.{Prot}
use Rattle.pt_model.specs.Layout.{Layout, IsLegalBlock, end_of, input_pages, pages_of_entry, pages_of_table}
use Rattle.pt_model.specs.Tables.{end_of_table, is_spine, position_over, spine_position}
use Rattle.pt_model.specs.declared.block.Block.{Block}
use Rattle.pt_model.specs.Pages.{page_at}
use Rattle.pt_model.specs.Book.{translation}
use Rattle.pt_format.specs.Words.{IsUnder, MayBeLeaf}
use Rattle.pt_view.specs.declared.view.View.{View}
use Rattle.pt_walk.specs.declared.path.Leaf.{Leaf}
use Rattle.pt_walk.specs.declared.range.Met.{Met}
use Rattle.pt_walk.specs.declared.range.Met.TheVariants as met
use Rattle.pt_walk.specs.declared.range.Under.{Under}
use Rattle.pt_walk.specs.declared.range.Under.TheVariants.{Nothing, Tables, Mapped}
use Rattle.pt_view.specs.declared.view.Node.{Node}
use Rattle.pt_view.specs.declared.view.Piece.{Piece}
use Rattle.pt_model.specs.declared.position.Position.{Position}
use Rattle.pt_model.specs.Sets.{IsAmong}
use Rattle.pt_view.specs.Pieces.{IsOneOf, IsUnderPiece, entry_number, level_of, table_of, word_of, words_of}
use Rattle.pt_view.specs.Views.{IsAtRest, book_of}
use Rattle.pt_view.specs.Loads.{IsInSpan, IsOver}
use Rattle.pt_view.specs.Calls.{IsVacant}

-- the path is the root's table alone, and its level is at least that of the book's top
abbrev pub IsRooted : View → (level : ℕ) → Type 0
IsRooted v level = (v.top ≤ level) × (frame : ℕ) × (v.path ≡ record { frame = frame; position = spine_position level } ∷ [])

-- a piece of a legal block below the top, in a table of the book or of the spine
pub record IsOwn (f : Layout) (v : View) (x : Piece) : Type 0 where
  pub a_part : x.part < words_of f x.block
  pub legal : IsLegalBlock f x.block
  pub stated : IsTrue (f.states x.block.prot)
  pub under_top : end_of x.block ≤ pages_of_table f v.top
  pub low : level_of f x ≤ v.top
  pub in_table : IsAmong v.tables (table_of f x) ⊎ IsTrue (is_spine v.levels (table_of f x))

abbrev pub OwnsAll : Layout → View → Type 0
OwnsAll f v = (x : Piece) → IsOneOf v.pieces x → IsOwn f v x

-- a page of the span is asked for
pub record IsAsked (f : Layout) (v : View) (page : ℕ) : Type 0 where
  pub a_page : page < input_pages f
  pub in_span : IsInSpan v page
  pub owns : OwnsAll f v

-- the way to it goes on from the path's last table, of this level
pub record IsGoing (f : Layout) (v : View) (page level : ℕ) : Type 0 where
  pub below : level < f.levels
  pub over : IsOver f v page level
  pub asked : IsAsked f v page

-- the way to it begins at the root's table, of this level
pub record IsStarting (f : Layout) (v : View) (page level : ℕ) : Type 0 where
  pub below : level < f.levels
  pub root : IsRooted v level
  pub asked : IsAsked f v page

-- no piece of so low a level has the page
abbrev pub HasNone : Layout → View → (page level : ℕ) → Type 0
HasNone f v page level = (x : Piece) → IsOneOf v.pieces x → IsUnderPiece f x page → level_of f x ≤ level → ⊥

abbrev pub HasNowhere : Layout → View → (page : ℕ) → Type 0
HasNowhere f v page = (x : Piece) → IsOneOf v.pieces x → IsUnderPiece f x page → ⊥

-- this word, of a table of this level, is that of the piece that has the page
pub record IsFound (f : Layout) (v : View) (page level word : ℕ) : Type 0 where
  pub piece : Piece
  pub own : IsOneOf v.pieces piece
  pub has_page : IsUnderPiece f piece page
  pub level_is : level ≡ level_of f piece
  pub word_is : word ≡ word_of f piece

-- the leaf that an entry's word is, where it isn't zero
abbrev pub leaf_in : (word : ℕ) → Option ℕ
leaf_in word = if word == 0 then None else Some word

-- what the way down to a page found: the word in the table of a level, where it isn't zero
abbrev pub FindsBelow : Layout → View → (page level lower word : ℕ) → Type 0
FindsBelow f v page level lower word = MatchOption (leaf_in word) (HasNone f v page level) (λ word. IsFound f v page lower word)

abbrev pub FindsOver : Layout → View → (page : ℕ) → Option Leaf → Type 0
FindsOver f v page found = MatchOption found (HasNowhere f v page) (λ leaf. IsFound f v page leaf.level leaf.word)

-- the path without so many last nodes is all that changed
abbrev pub Climbs : View → (tables : ℕ) → View → Type 0
Climbs v tables w = (front nodes : List Node) → v.path ≡ front ++ nodes → length nodes ≡ tables → w ≡ record v { path = front }

-- the page of an address, where it is one of these
abbrev pub IsPageIn : Layout → (first count address page : ℕ) → Type 0
IsPageIn f first count address page = (page_at f address ≡ Some page) × (first ≤ page) × (page < first + count)

abbrev pub FindsPage : Layout → (first count address : ℕ) → Option ℕ → Type 0
FindsPage f first count address found = MatchOption found ((page : ℕ) → ¬ IsPageIn f first count address page) (λ page. IsPageIn f first count address page)

-- what a leaf translates an address to, at a page under it
abbrev pub MapsTo : Layout → (level word page address : ℕ) → ℕ × Prot → Type 0
MapsTo f level word page address to =
    (first log2 out part : ℕ) (prot : Prot) → MayBeLeaf f level log2 out prot part → word ≡ f.leaf level log2 out prot part →
    IsUnder f level log2 first part page → to ≡ ((out + (page - first)) * 2 ^ f.granule + address % 2 ^ f.granule, prot)

-- what the book of a view at rest translates an address to
abbrev pub IsTranslation : Layout → View → (address : ℕ) → Option (ℕ × Prot) → Type 0
IsTranslation f v address to = (blocks : List Block) → IsAtRest f v blocks → to ≡ translation f (book_of v blocks) address

-- the holder is at rest, whatever its blocks are
abbrev pub Rests : Layout → View → Type 0
Rests f v = (blocks : List Block) × IsAtRest f v blocks

-- Ranges of pages below the path's last table.

-- the path's last table is the one of this level over page `first`, and the pages from there to before `end`
-- are under it and of the span
pub record IsOverRange (f : Layout) (v : View) (first end level : ℕ) : Type 0 where
  pub below : level < f.levels
  pub over : IsOver f v first level
  pub some : first < end
  pub under : end ≤ end_of_table f (position_over f first level)
  pub in_space : end ≤ input_pages f
  pub from : v.first ≤ first
  pub to : end ≤ v.first + v.count

-- no piece of a higher level has a page of a range
abbrev pub IsClear : Layout → View → (first end level : ℕ) → Type 0
IsClear f v first end level =
    (page : ℕ) → first ≤ page → page < end → (x : Piece) → IsOneOf v.pieces x → IsUnderPiece f x page → level_of f x ≤ level

-- what is clear of pieces of higher levels is so a table further down
abbrev pub StaysClear : Layout → (v w : View) → (first end level lower : ℕ) → Type 0
StaysClear f v w first end level lower = OwnsAll f v → IsClear f v first end level → IsClear f w first end lower

-- no piece has a page of a range
abbrev pub IsFree : Layout → View → (first end : ℕ) → Type 0
IsFree f v first end = (page : ℕ) → first ≤ page → page < end → HasNowhere f v page

-- the lowest page of a range that a piece has
pub record IsLowest (f : Layout) (v : View) (first end page : ℕ) : Type 0 where
  pub from : first ≤ page
  pub to : page < end
  pub piece : Piece
  pub own : IsOneOf v.pieces piece
  pub has_page : IsUnderPiece f piece page
  pub free : IsFree f v first page

-- no table of the book, of a level below this one, begins in a range
abbrev pub HasNoTable : View → (first end level : ℕ) → Type 0
HasNoTable v first end level = (q : Position) → IsAmong v.tables q → q.level < level → first ≤ q.base → q.base < end → ⊥

-- what the look under the entries of a table over a range found: neither a mapped page nor a table, tables alone, or the
-- lowest mapped page
abbrev pub FindsUnder : Layout → View → (first end level : ℕ) → Under → Type 0
FindsUnder f v first end level Nothing = IsFree f v first end × HasNoTable v first end level
FindsUnder f v first end level Tables = IsFree f v first end
FindsUnder f v first end level (Mapped page) = IsLowest f v first end page

-- the nodes are the tables over a page, each a level lower than the one before, the first one below `level`
abbrev pub IsWayDown : Layout → (page level : ℕ) → List Node → Type 0
IsWayDown f page level [] = ⊤
IsWayDown f page level (x ∷ xs) = (x.position ≡ position_over f page (level - 1)) × IsWayDown f page (level - 1) xs

-- the path went down from the table of one level to the one of another over a page
pub record WentDown (f : Layout) (v w : View) (page level lower : ℕ) : Type 0 where
  pub nodes : List Node
  pub path : w.path ≡ v.path ++ nodes
  pub way : IsWayDown f page level nodes
  pub so_many : length nodes + lower ≡ level
  pub over : IsOver f w page lower

-- the tables over a page from one level up to below another are of the book or of the spine
abbrev pub OwnsOver : Layout → View → (page low high : ℕ) → Type 0
OwnsOver f v page low high =
    (level : ℕ) → low ≤ level → level < high → IsAmong v.tables (position_over f page level) ⊎ IsTrue (is_spine v.levels (position_over f page level))

-- why a way down over a range stops in the path's last table, of this level: the level was the lowest one asked for or the
-- range isn't under one entry there, nothing is at its entry, or the word of a block is, which has the range's first page
abbrev pub StopsAt : Layout → View → (first end lowest level : ℕ) → Met → Type 0
StopsAt f v first end lowest level met.Table = (level ≡ lowest) ⊎ ((first / pages_of_entry f level + 1) * pages_of_entry f level < end)
StopsAt f v first end lowest level met.Empty = IsVacant f v (position_over f first level) (entry_number f level first)
StopsAt f v first end lowest level met.Leaf = OwnsAll f v → IsLowest f v first end first

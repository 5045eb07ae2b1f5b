-- What each call of a holder does to its view. A clause on `taken`, `absent` or `stores` holds where the
-- holder tells them, and one on `alone` where no other live view of its words exists.
use Rattle.std.specs.Prelude.{◌≡◌, ◌⊎◌, ℕ, ◌+◌, ◌*◌, ◌^◌, ◌<◌, ◌≤◌, nat_le, nat_lt, ◌==◌, ◌&&◌, Bool, true, false, length, filter, map, not, List, [], ◌∷◌, ◌++◌, Option, Some, None, IsTrue, max, if◌then◌else◌, fold}
use Rattle.pt_model.specs.Layout.{Layout, IsLegalBlock, end_of, pages_of_entry, pages_of_table}
use Rattle.pt_model.specs.declared.position.Position.{Position}
use Rattle.pt_model.specs.Tables.{add_position, add_positions, child_at, end_of_table, spine_position, is_spine, is_same, least_top, starting_top}
use Rattle.pt_view.specs.declared.view.View.{View}
use Rattle.pt_view.specs.declared.view.Node.{Node}
use Rattle.pt_view.specs.declared.view.Piece.{Piece}
use Rattle.pt_view.specs.declared.view.Prepared.{Prepared}
use Rattle.pt_view.specs.declared.view.Absence.TheVariants.{Zero, Top}
use Rattle.pt_view.specs.declared.view.Change.TheVariants.{Written, Cleared}
use Rattle.pt_view.specs.declared.holder.Seen.{Seen}
use Rattle.pt_view.specs.declared.holder.Seen.TheVariants.{Empty, Leaf, Entered}
use Rattle.pt_view.specs.declared.holder.Won.{Won}
use Rattle.pt_view.specs.declared.holder.Won.TheVariants.{Yes, Met}
use Rattle.pt_model.specs.Sets.{one_if, IsAmong, SamePositions, AddsPositions, RemovesPosition, without_position}
use Rattle.pt_view.specs.Lists.{IsIn, SameFrames, AddsFrame, DropsFrames}
use Rattle.pt_view.specs.Pieces.{IsOneOf, add_piece, add_pieces, pieces_by, first_of, table_of, number_of, word_of, words_of}
use Rattle.pt_view.specs.Views.{Aside, SameRange, SameBook, SamePurse, SameHistory, linked_count}

-- Entries of the path's last table.

-- the last node of a path, which is the lowest table
abbrev pub lowest : List Node → Option Node
lowest [] = None
lowest (x ∷ []) = Some x
lowest (x ∷ y ∷ xs) = lowest (y ∷ xs)

-- the path without its last node
abbrev pub all_but_last : List Node → List Node
all_but_last [] = []
all_but_last (x ∷ []) = []
all_but_last (x ∷ y ∷ xs) = x ∷ all_but_last (y ∷ xs)

-- the pages under an entry of a table: the first one, and the one after the last
abbrev pub entry_first : Layout → Position → (number : ℕ) → ℕ
entry_first f p number = p.base + number * pages_of_entry f p.level

abbrev pub entry_end : Layout → Position → (number : ℕ) → ℕ
entry_end f p number = entry_first f p number + pages_of_entry f p.level

abbrev pub span_end : View → ℕ
span_end v = v.first + v.count

abbrev pub meets_span : View → (first last : ℕ) → Bool
meets_span v first last = nat_lt first (span_end v) && nat_lt v.first last

abbrev pub is_in_span : View → (first last : ℕ) → Bool
is_in_span v first last = nat_le v.first first && nat_le last (span_end v)

-- how many pieces of a list stand at an entry
abbrev pub pieces_at : Layout → Position → (number : ℕ) → List Piece → ℕ
pieces_at f p number [] = 0
pieces_at f p number (x ∷ xs) =
    one_if (is_same p (table_of f x) && (number_of f x == number)) + pieces_at f p number xs

-- the pieces of a list that stand elsewhere
abbrev pub drop_at : Layout → Position → (number : ℕ) → List Piece → List Piece
drop_at f p number xs = filter (λ x. pieces_at f p number (x ∷ []) == 0) xs

-- the entry is one of the path's last table, at this position
pub record IsEntryAt (f : Layout) (v : View) (p : Position) (number : ℕ) : Type 0 where
  pub node : Node
  pub is_lowest : lowest v.path ≡ Some node
  pub at : node.position ≡ p
  pub within : number < 2 ^ f.index

-- an entry whose pages meet the span, and one whose pages are inside it
pub record MeetsEntry (f : Layout) (v : View) (number : ℕ) : Type 0 where
  pub position : Position
  pub entry : IsEntryAt f v position number
  pub meets : IsTrue (meets_span v (entry_first f position number) (entry_end f position number))

-- the child at an entry, or a position under it
abbrev pub is_under : Layout → Position → (number : ℕ) → Position → Bool
is_under f p number q =
    nat_lt q.level p.level && nat_le (entry_first f p number) q.base && nat_lt q.base (entry_end f p number)

-- no piece stands at the entry, and no table or position found linked lies under it
pub record IsVacant (f : Layout) (v : View) (p : Position) (number : ℕ) : Type 0 where
  pub no_piece : pieces_at f p number v.pieces ≡ 0
  pub no_table : (q : Position) → IsAmong v.tables q → is_under f p number q ≡ false
  pub none_known : (q : Position) → IsAmong v.known q → is_under f p number q ≡ false
  pub no_spine : (level : ℕ) → starting_top v.levels ≤ level → level ≤ v.top → is_under f p number (spine_position level) ≡ false

-- no table, position found linked or spine position of the book lies under the entry
pub record HasNoTableUnder (f : Layout) (v : View) (p : Position) (number : ℕ) : Type 0 where
  pub no_table : (q : Position) → IsAmong v.tables q → is_under f p number q ≡ false
  pub none_known : (q : Position) → IsAmong v.known q → is_under f p number q ≡ false
  pub no_spine : (level : ℕ) → starting_top v.levels ≤ level → level ≤ v.top → is_under f p number (spine_position level) ≡ false

-- What the calls do. Each keeps the range; what is not named as changed stays.

pub record Rooted (f : Layout) (tells alone : Type 0) (v : View) (level : ℕ) (w : View) : Type 0 where
  pub range : SameRange v w
  pub book : SameBook v w
  pub purse : SamePurse v w
  pub prepared : w.prepared ≡ v.prepared
  pub path : (frame : ℕ) × (w.path ≡ record { frame = frame; position = spine_position level } ∷ [])
  pub busy : SameFrames v.busy w.busy
  pub known : AddsPositions v.known w.known (λ p. IsTrue (is_spine v.levels p) × (p.level ≤ level))
  pub told : tells → (w.taken ≡ v.taken) × (w.absent ≡ v.absent ++ Top level ∷ []) × (w.stores ≡ v.stores)
  pub legal : level < f.levels
  pub reaches : v.top ≤ level
  pub over_tables : (p : Position) → IsAmong v.tables p → end_of_table f p ≤ pages_of_table f level
  pub over_known : (p : Position) → IsAmong v.known p → end_of_table f p ≤ pages_of_table f level
  pub exact : alone → level ≡ v.top

-- a load of the entry found this
pub data Looked (f : Layout) (tells alone : Type 0) (v : View) (p : Position) (number : ℕ) : Seen → View → Type 0 where
  zero : (w : View) → w.path ≡ v.path → SamePositions v.known w.known → IsVacant f v p number →
      (tells → (w.taken ≡ v.taken) × (w.absent ≡ v.absent ++ (if nat_lt 0 p.level then Zero (child_at f p number) ∷ [] else [])) × (w.stores ≡ v.stores)) →
      Looked f tells alone v p number Empty w
  leaf : (w : View) (word : ℕ) (piece : Piece) → w.path ≡ v.path → SamePositions v.known w.known → (tells → SameHistory v w) →
      IsOneOf v.pieces piece → pieces_at f p number (piece ∷ []) ≡ 1 → pieces_at f p number v.pieces ≡ 1 → word ≡ word_of f piece →
      HasNoTableUnder f v p number → Looked f tells alone v p number (Leaf word) w
  table : (w : View) (frame : ℕ) → w.path ≡ v.path ++ record { frame = frame; position = child_at f p number } ∷ [] →
      AddsPositions v.known w.known (λ q. q ≡ child_at f p number) → (tells → SameHistory v w) → 0 < p.level →
      pieces_at f p number v.pieces ≡ 0 →
      (alone → IsAmong v.tables (child_at f p number) ⊎ IsTrue (is_spine v.levels (child_at f p number))) →
      Looked f tells alone v p number Entered w

pub record Went (f : Layout) (tells alone : Type 0) (number : ℕ) (v : View) (seen : Seen) (w : View) : Type 0 where
  pub range : SameRange v w
  pub book : SameBook v w
  pub purse : SamePurse v w
  pub prepared : w.prepared ≡ v.prepared
  pub busy : SameFrames v.busy w.busy
  pub looked : (p : Position) → IsEntryAt f v p number → Looked f tells alone v p number seen w

-- the path loses its last node, and nothing else changes
abbrev pub left : View → View
left v = record v { path = all_but_last v.path }

-- the first frame of the purse is prepared for a position
pub record IsPlaced (tells : Type 0) (v : View) (p : Position) (w : View) : Type 0 where
  pub range : SameRange v w
  pub book : SameBook v w
  pub path : w.path ≡ v.path
  pub purse : (frame : ℕ) × (v.purse ≡ frame ∷ w.purse) × (w.prepared ≡ Some (record { frame = frame; position = p; bridge = None }))
  pub end : w.end ≡ v.end
  pub busy : SameFrames v.busy w.busy
  pub known : SamePositions v.known w.known
  pub told : tells → SameHistory v w

-- the prepared frame is the first of the purse again
pub record IsUnplaced (tells : Type 0) (v w : View) : Type 0 where
  pub range : SameRange v w
  pub book : SameBook v w
  pub path : w.path ≡ v.path
  pub purse : (x : Prepared) → v.prepared ≡ Some x → w.purse ≡ x.frame ∷ v.purse
  pub none : w.prepared ≡ None
  pub end : w.end ≡ v.end
  pub busy : SameFrames v.busy w.busy
  pub known : SamePositions v.known w.known
  pub told : tells → SameHistory v w

-- what may be linked at an entry: the prepared frame, for the child's position, where no piece stands
pub record MayInstall (f : Layout) (v : View) (number : ℕ) : Type 0 where
  pub position : Position
  pub entry : IsEntryAt f v position number
  pub meets : IsTrue (meets_span v (entry_first f position number) (entry_end f position number))
  pub high : 0 < position.level
  pub frame : ℕ
  pub prepared : v.prepared ≡ Some (record { frame = frame; position = child_at f position number; bridge = None })
  pub no_piece : pieces_at f position number v.pieces ≡ 0

-- a position is a table of the book, unless it is of the spine
abbrev pub with_table : (levels : ℕ) → List Position → Position → List Position
with_table levels tables p = if is_spine levels p then tables else add_position tables p

-- the positions of a path that are not of the spine
abbrev pub off_spine : (levels : ℕ) → List Node → List Position
off_spine levels path = filter (λ p. not (is_spine levels p)) (map (λ (x : Node). x.position) path)

-- the prepared frame is linked, or the path went into the table that another linked there
abbrev pub Prepares : Won → (v w : View) → Type 0
Prepares Yes v w = w.prepared ≡ None
Prepares Met v w = w.prepared ≡ v.prepared

-- What an install finds at the entry: where it wins, nothing, and the table is off the spine; where it meets a table,
-- over a lone holder that one is of its book or of the spine.
abbrev pub InstallFinds : Layout → (alone : Type 0) → (number : ℕ) → View → Won → Type 0
InstallFinds f alone number v Yes = (p : Position) → IsEntryAt f v p number → IsVacant f v p number × (is_spine v.levels (child_at f p number) ≡ false)
InstallFinds f alone number v Met = alone → (p : Position) → IsEntryAt f v p number → IsAmong v.tables (child_at f p number) ⊎ IsTrue (is_spine v.levels (child_at f p number))

pub record IsInstalled (f : Layout) (tells : Type 0) (number : ℕ) (v : View) (won : Won) (w : View) : Type 0 where
  pub range : SameRange v w
  pub pieces : w.pieces ≡ v.pieces
  pub top : w.top ≡ v.top
  pub purse : SamePurse v w
  pub prepares : Prepares won v w
  pub busy : SameFrames v.busy w.busy
  pub tables : (p : Position) → IsEntryAt f v p number → w.tables ≡ with_table v.levels v.tables (child_at f p number)
  pub path : (p : Position) → IsEntryAt f v p number → (frame : ℕ) × (w.path ≡ v.path ++ record { frame = frame; position = child_at f p number } ∷ [])
  pub known : (p : Position) → IsEntryAt f v p number → AddsPositions v.known w.known (λ q. q ≡ child_at f p number)
  pub told : tells → SameHistory v w

-- the path is the node of a root at this level, and no more
abbrev pub IsRootAt : View → (level : ℕ) → Type 0
IsRootAt v level = (root : ℕ) × (v.path ≡ record { frame = root; position = spine_position level } ∷ [])

-- what may be the new top: the frame that is prepared for the spine position over the root
pub record MayGrow (v : View) : Type 0 where
  pub root : ℕ
  pub level : ℕ
  pub path : v.path ≡ record { frame = root; position = spine_position level } ∷ []
  pub reaches : v.top ≤ level
  pub frame : ℕ
  pub prepared : v.prepared ≡ Some (record { frame = frame; position = spine_position (level + 1); bridge = None })

-- the prepared frame is the top, one level over the old one
pub record IsRaised (f : Layout) (level : ℕ) (v w : View) : Type 0 where
  pub prepared : w.prepared ≡ None
  pub top : w.top ≡ level + 1
  pub path : IsRootAt w (level + 1)
  pub known : AddsPositions v.known w.known (λ p. IsTrue (is_spine v.levels p) × (p.level ≤ level + 1))
  pub legal : level + 1 < f.levels

-- another holder raised the root before, to the level that was found
pub record IsOutgrown (f : Layout) (level : ℕ) (v w : View) : Type 0 where
  pub prepared : w.prepared ≡ v.prepared
  pub top : w.top ≡ v.top
  pub path : w.path ≡ []
  pub found : ℕ
  pub higher : level < found
  pub legal : found < f.levels
  pub known : AddsPositions v.known w.known (λ p. IsTrue (is_spine v.levels p) × (p.level ≤ found))

abbrev pub Grows : Layout → Won → (level : ℕ) → (v w : View) → Type 0
Grows f Yes level v w = IsRaised f level v w
Grows f Met level v w = IsOutgrown f level v w

-- a lone holder's growth is never lost
pub record IsGrown (f : Layout) (tells alone : Type 0) (v : View) (won : Won) (w : View) : Type 0 where
  pub range : SameRange v w
  pub pieces : w.pieces ≡ v.pieces
  pub tables : w.tables ≡ v.tables
  pub purse : SamePurse v w
  pub busy : SameFrames v.busy w.busy
  pub grows : (level : ℕ) → IsRootAt v level → Grows f won level v w
  pub told : tells → SameHistory v w
  pub wins : alone → won ≡ Yes

-- what may be written into an entry: a piece of a legal block in the span, where the book has nothing
pub record MayPut (f : Layout) (v : View) (number : ℕ) (piece : Piece) : Type 0 where
  pub position : Position
  pub entry : IsEntryAt f v position number
  pub inside : IsTrue (is_in_span v (entry_first f position number) (entry_end f position number))
  pub no_piece : pieces_at f position number v.pieces ≡ 0
  pub no_table : (q : Position) → IsAmong v.tables q → is_under f position number q ≡ false
  pub here : pieces_at f position number (piece ∷ []) ≡ 1
  pub a_part : piece.part < words_of f piece.block
  pub legal : IsLegalBlock f piece.block
  pub stated : IsTrue (f.states piece.block.prot)
  pub in_span : IsTrue (is_in_span v piece.block.first (end_of piece.block))

abbrev pub MayWrite : Layout → View → (number word : ℕ) → Type 0
MayWrite f v number word = (piece : Piece) × (word ≡ word_of f piece) × MayPut f v number piece

-- the piece of that word joins the pieces, the tables of the path are the book's, and the top reaches over it
pub record IsWritten (f : Layout) (tells : Type 0) (number word : ℕ) (v w : View) : Type 0 where
  pub range : SameRange v w
  pub purse : SamePurse v w
  pub path : w.path ≡ v.path
  pub prepared : w.prepared ≡ v.prepared
  pub busy : SameFrames v.busy w.busy
  pub known : SamePositions v.known w.known
  pub tables : w.tables ≡ add_positions v.tables (off_spine v.levels v.path)
  pub pieces : (piece : Piece) → word ≡ word_of f piece → MayPut f v number piece → w.pieces ≡ add_piece f v.pieces piece
  pub top : (piece : Piece) → word ≡ word_of f piece → MayPut f v number piece → w.top ≡ max v.top (least_top f v.levels (end_of piece.block))
  pub stores : tells → (piece : Piece) → word ≡ word_of f piece → MayPut f v number piece → w.stores ≡ v.stores ++ Written piece ∷ []
  pub told : tells → (w.taken ≡ v.taken) × (w.absent ≡ v.absent)

-- Runs of entries.

-- pieces for `count` entries from number `first` on, whose words go by a step; each may be written
pub record ArePieces (f : Layout) (v : View) (first count word step : ℕ) (piece : ℕ → Piece) : Type 0 where
  pub word_is : (i : ℕ) → i < count → word_of f (piece i) ≡ word + i * step
  pub may : (i : ℕ) → i < count → MayPut f v (first + i) (piece i)

pub record MayWriteRun (f : Layout) (v : View) (first count word step : ℕ) : Type 0 where
  pub some : 0 < count
  pub within : (i : ℕ) → i < count → word + i * step < 2 ^ 64
  pub piece : ℕ → Piece
  pub are : ArePieces f v first count word step piece

-- the top, where it reaches over the blocks of these pieces
abbrev pub top_over : Layout → (levels top : ℕ) → List Piece → ℕ
top_over f levels top xs = fold (λ (t : ℕ) (x : Piece). max t (least_top f levels (end_of x.block))) top xs

-- the pieces of these words join the pieces, the tables of the path are the book's, and the top reaches over them
pub record IsWrittenRun (f : Layout) (tells : Type 0) (first count word step : ℕ) (v w : View) : Type 0 where
  pub range : SameRange v w
  pub purse : SamePurse v w
  pub path : w.path ≡ v.path
  pub prepared : w.prepared ≡ v.prepared
  pub busy : SameFrames v.busy w.busy
  pub known : SamePositions v.known w.known
  pub tables : w.tables ≡ add_positions v.tables (off_spine v.levels v.path)
  pub pieces : (piece : ℕ → Piece) → ArePieces f v first count word step piece → w.pieces ≡ add_pieces f v.pieces (pieces_by piece count)
  pub top : (piece : ℕ → Piece) → ArePieces f v first count word step piece → w.top ≡ top_over f v.levels v.top (pieces_by piece count)
  pub stores : tells → (piece : ℕ → Piece) → ArePieces f v first count word step piece → w.stores ≡ v.stores ++ map Written (pieces_by piece count)
  pub told : tells → (w.taken ≡ v.taken) × (w.absent ≡ v.absent)

-- Takings away.

-- what may be cleared at an entry: the word of a piece of the book
pub record MayDrop (f : Layout) (v : View) (number : ℕ) (piece : Piece) : Type 0 where
  pub position : Position
  pub entry : IsEntryAt f v position number
  pub member : IsOneOf v.pieces piece
  pub here : pieces_at f position number (piece ∷ []) ≡ 1

abbrev pub MayClear : Layout → View → (number : ℕ) → Type 0
MayClear f v number = (piece : Piece) × MayDrop f v number piece

-- the piece at the entry leaves the pieces, and the tables and the top stay
pub record IsCleared (f : Layout) (tells : Type 0) (number : ℕ) (v w : View) : Type 0 where
  pub range : SameRange v w
  pub purse : SamePurse v w
  pub path : w.path ≡ v.path
  pub prepared : w.prepared ≡ v.prepared
  pub busy : SameFrames v.busy w.busy
  pub known : SamePositions v.known w.known
  pub tables : w.tables ≡ v.tables
  pub top : w.top ≡ v.top
  pub pieces : (p : Position) → IsEntryAt f v p number → w.pieces ≡ drop_at f p number v.pieces
  pub stores : tells → (piece : Piece) → MayDrop f v number piece → w.stores ≡ v.stores ++ Cleared piece ∷ []
  pub told : tells → (w.taken ≡ v.taken) × (w.absent ≡ v.absent)

-- whether a piece begins under an entry
abbrev pub begins_under : Layout → Position → (number : ℕ) → Piece → Bool
begins_under f p number x = nat_le (entry_first f p number) (first_of f x) && nat_lt (first_of f x) (entry_end f p number)

-- the child at an entry is off the spine and inside the span, and the book has no piece and no other table under the entry
pub record IsBare (f : Layout) (v : View) (p : Position) (number : ℕ) : Type 0 where
  pub high : 0 < p.level
  pub off_spine : is_spine v.levels (child_at f p number) ≡ false
  pub inside : IsTrue (is_in_span v (entry_first f p number) (entry_end f p number))
  pub no_piece : (x : Piece) → IsOneOf v.pieces x → begins_under f p number x ≡ false
  pub no_table : (q : Position) → IsAmong v.tables q → IsTrue (is_under f p number q) → q ≡ child_at f p number

-- what may be unlinked at an entry: a table that was found linked there, and is bare
pub record MayUnlink (f : Layout) (v : View) (number : ℕ) : Type 0 where
  pub position : Position
  pub entry : IsEntryAt f v position number
  pub bare : IsBare f v position number
  pub linked : IsAmong v.known (child_at f position number) ⊎ IsAmong v.tables (child_at f position number)
  pub none : v.prepared ≡ None

-- the child leaves the tables and the known positions, and its frame is the first of the purse
pub record IsUnlinked (f : Layout) (tells : Type 0) (number : ℕ) (v w : View) : Type 0 where
  pub range : SameRange v w
  pub pieces : w.pieces ≡ v.pieces
  pub top : w.top ≡ v.top
  pub path : w.path ≡ v.path
  pub purse : (frame : ℕ) × (w.purse ≡ frame ∷ v.purse)
  pub end : w.end ≡ v.end
  pub prepared : w.prepared ≡ None
  pub busy : SameFrames v.busy w.busy
  pub tables : (p : Position) → IsEntryAt f v p number → w.tables ≡ without_position (child_at f p number) v.tables
  pub known : (p : Position) → IsEntryAt f v p number → RemovesPosition v.known w.known (child_at f p number)
  pub told : tells → SameHistory v w

-- what an unlink finds at the entry: over a lone holder, one of its tables
abbrev pub UnlinkFinds : Layout → (alone : Type 0) → (number : ℕ) → View → Type 0
UnlinkFinds f alone number v = alone → (p : Position) → IsEntryAt f v p number → IsAmong v.tables (child_at f p number)

-- a take was won or lost
abbrev pub Takes : Bool → (tells : Type 0) → (frame : ℕ) → (v w : View) → Type 0
Takes true tells frame v w = (w.purse ≡ frame ∷ v.purse) × (tells → w.taken ≡ v.taken)
Takes false tells frame v w = (w.purse ≡ v.purse) × (tells → w.taken ≡ v.taken ++ frame ∷ [])

pub record IsTaken (tells : Type 0) (frame : ℕ) (v : View) (won : Bool) (w : View) : Type 0 where
  pub range : SameRange v w
  pub book : SameBook v w
  pub path : w.path ≡ v.path
  pub prepared : w.prepared ≡ v.prepared
  pub end : w.end ≡ v.end
  pub takes : Takes won tells frame v w
  pub busy : AddsFrame v.busy w.busy frame
  pub known : SamePositions v.known w.known
  pub told : tells → (w.absent ≡ v.absent) × (w.stores ≡ v.stores)

-- these frames, the first ones of the purse, are freed: they aren't held, nor busy
pub record IsFreed (tells : Type 0) (frames : List ℕ) (v w : View) : Type 0 where
  pub range : SameRange v w
  pub book : SameBook v w
  pub path : w.path ≡ v.path
  pub prepared : w.prepared ≡ v.prepared
  pub purse : v.purse ≡ frames ++ w.purse
  pub end : w.end ≡ v.end
  pub busy : DropsFrames v.busy w.busy frames
  pub known : SamePositions v.known w.known
  pub told : tells → SameHistory v w

-- every frame of the purse is freed
pub record IsReleased (tells : Type 0) (v w : View) : Type 0 where
  pub freed : IsFreed tells v.purse v w
  pub none : w.purse ≡ []

-- Counts of frames.

-- a frame is prepared, and it has no bridge
abbrev pub IsPrepared : View → Type 0
IsPrepared v = (x : Prepared) × (v.prepared ≡ Some x) × (x.bridge ≡ None)

-- the frames that a view holds or prepares
abbrev pub prepared_count : Option Prepared → ℕ
prepared_count None = 0
prepared_count (Some x) = 1

abbrev pub held_count : View → ℕ
held_count v = length v.purse + prepared_count v.prepared

-- the frames below a number were found not free
abbrev pub HasFramesBelow : View → (number : ℕ) → Type 0
HasFramesBelow v number = (frame : ℕ) → frame < number → IsIn v.busy frame

abbrev pub HasEveryFrame : View → Type 0
HasEveryFrame v = (frame : ℕ) → frame < v.frames → IsIn v.busy frame

-- the linked, held and prepared frames of a lone holder are all of its space, and no more than these
abbrev pub FillsSpace : View → Aside → Type 0
FillsSpace v aside = linked_count v aside + held_count v ≡ v.frames

abbrev pub FitsSpace : View → Aside → Type 0
FitsSpace v aside = linked_count v aside + held_count v ≤ v.frames

-- The kinds of step: one load, store or exchange of one word by one seat, and what it makes of the seat's
-- view. A step names a kind and nothing else, so the histories of a view are what was met by construction.
use Rattle.std.specs.Prelude.{◌≡◌, ◌≢◌, ◌⊎◌, false, ℕ, ◌+◌, ◌/◌, ◌%◌, ◌^◌, ◌<◌, ◌≤◌, ◌==◌, nat_lt, not, List, [], ◌∷◌, ◌++◌, length, Option, None, Some, map, max, filter, slice_index, slice_set, IsTrue, if◌then◌else◌}
use mathlib.Core.Option.{some}
use lib.ListN.{get_elem?}
use Rattle.pt_model.specs.declared.position.Position.{Position}
use Rattle.pt_model.specs.Layout.{Layout, Found, table, end_of, input_pages, pages_of_table}
use Rattle.pt_model.specs.Tables.{IsPosition, add_positions, child_at, end_of_table, is_spine, least_top, levels_between, spine_position, starting_top}
use Rattle.pt_model.specs.Words.{entry_place, placed_word, frame_address, frame_named, root_word}
use Rattle.pt_format.specs.Words.{IsTableLevel}
use Rattle.pt_view.specs.declared.view.View.{View}
use Rattle.pt_view.specs.declared.view.Node.{Node}
use Rattle.pt_view.specs.declared.view.Piece.{Piece}
use Rattle.pt_view.specs.declared.view.Prepared.{Prepared}
use Rattle.pt_view.specs.declared.view.Absence.TheVariants.{Zero, Top}
use Rattle.pt_view.specs.declared.view.Change.TheVariants.{Written, Cleared}
use Rattle.pt_model.specs.Sets.{IsAmong, without_position}
use Rattle.pt_view.specs.Lists.{IsIn}
use Rattle.pt_view.specs.Pieces.{IsOneOf, add_piece, number_of, table_of, word_of}
use Rattle.pt_view.specs.Calls.{drop_at, lowest, entry_first, HasNoTableUnder, IsBare, IsEntryAt, IsVacant, MeetsEntry, MayDrop, MayInstall, MayPut, off_spine, pieces_at, with_table, all_but_last}
use Rattle.pt_rule.specs.Tags.{IsEnd, first_or, held_word}
use Rattle.pt_rule.specs.Lawful.{Lawful, IsOwnPiece}

-- Each line names the holder's call that makes the step, where one does.
pub data Kind : Type 0 where
  -- `take`: an exchange of a tag, from free to held
  take : (frame : ℕ) → Kind
  -- `place`: a load of the tag of a frame of the purse, for the frame that comes next there, and a store by which the
  -- purse's first frame is prepared for a position
  look_tag : (frame : ℕ) → Kind
  place : (frame : ℕ) → Position → Kind
  -- `unplace`, and the end of `unlink`: a store by which the prepared frame is the purse's first again
  unplace : (frame : ℕ) → Kind
  -- `release`: after a load of its tag, a store by which the purse's first frame is free
  free : (frame : ℕ) → Kind
  -- a cut of a purse in two, or two put together: a store by which its last frame has a new end mark
  mark : (frame : ℕ) → Option ℕ → Kind
  -- `root`: a load of the root
  load_root : Kind
  -- `enter`, and the begin of `unlink`: a load of an entry of the path's last table, which is in this frame
  look : (frame number : ℕ) → Kind
  -- `install`: an exchange of such an entry, from zero to the prepared frame's pointer
  install : (frame number : ℕ) → Kind
  -- `write`, and each store of `write_run`: a store of a piece's word to such an entry
  write : (frame number : ℕ) → Piece → Kind
  -- `clear`: a store of zero to such an entry, at which a piece's word stands
  clear : (frame number : ℕ) → Piece → Kind
  -- `unlink`: a store of zero to an entry of the table above the path's last one, which is linked there and is left and
  -- prepared
  unlink : (frame number : ℕ) → Kind
  -- `grow`: a store of the pointer to the old top, which is at this level, to entry 0 of the prepared frame; a store of
  -- zero there again where the growth was lost; and between them an exchange of the root, from the old top to the
  -- prepared frame, one level up
  bridge : (frame old level : ℕ) → Kind
  unbridge : (frame level : ℕ) → Kind
  raise : (frame old level : ℕ) → Kind

-- The word that a step is on.
abbrev pub place_of : Layout → (n : ℕ) → Kind → ℕ
place_of f n (take frame) = 1 + frame
place_of f n (place frame p) = 1 + frame
place_of f n (unplace frame) = 1 + frame
place_of f n (free frame) = 1 + frame
place_of f n (mark frame end) = 1 + frame
place_of f n (look_tag frame) = 1 + frame
place_of f n load_root = 0
place_of f n (look frame number) = entry_place f n frame number
place_of f n (install frame number) = entry_place f n frame number
place_of f n (write frame number x) = entry_place f n frame number
place_of f n (clear frame number x) = entry_place f n frame number
place_of f n (unlink frame number) = entry_place f n frame number
place_of f n (bridge frame old level) = entry_place f n frame 0
place_of f n (unbridge frame level) = entry_place f n frame 0
place_of f n (raise frame old level) = 0

-- What it puts there, where it found this number.
abbrev pub pointer_to : Layout → (level : ℕ) → Option Prepared → ℕ
pointer_to f level None = 0
pointer_to f level (Some x) = f.pointer level (frame_address f x.frame)

abbrev pub level_at : Option Node → ℕ
level_at None = 0
level_at (Some x) = x.position.level

abbrev pub put : Layout → Kind → View → (found : ℕ) → ℕ
put f (take frame) v found = if found == 0 then held_word (first_or v.end v.purse) else found
put f (place frame p) v found = placed_word p
put f (unplace frame) v found = held_word (first_or v.end v.purse)
put f (free frame) v found = 0
put f (mark frame end) v found = held_word end
put f (look_tag frame) v found = found
put f load_root v found = found
put f (look frame number) v found = found
put f (install frame number) v found = if found == 0 then pointer_to f (level_at (lowest v.path)) v.prepared else found
put f (write frame number x) v found = word_of f x
put f (clear frame number x) v found = 0
put f (unlink frame number) v found = 0
put f (bridge frame old level) v found = f.pointer (level + 1) (frame_address f old)
put f (unbridge frame level) v found = 0
put f (raise frame old level) v found = if found == root_word old level then root_word frame (level + 1) else found

-- The view after it.

abbrev pub rest_of : List ℕ → List ℕ
rest_of [] = []
rest_of (frame ∷ frames) = frames

abbrev pub without : ℕ → List ℕ → List ℕ
without x xs = filter (λ y. not (y == x)) xs

-- the path goes into the table in a frame, which is the child at an entry of its last table
abbrev pub deeper : Layout → (frame number : ℕ) → Option Node → View → View
deeper f frame number None v = v
deeper f frame number (Some x) v = record v {
  path = v.path ++ record { frame = frame; position = child_at f x.position number } ∷ [];
  known = child_at f x.position number ∷ v.known;
}

-- the child at that entry is absent: it was zero, in a table above the lowest
abbrev pub met_zero : Layout → (number : ℕ) → Option Node → View → View
met_zero f number None v = v
met_zero f number (Some x) v =
    if nat_lt 0 x.position.level then record v { absent = v.absent ++ Zero (child_at f x.position number) ∷ [] } else v

-- what the manual's step finds in a word that isn't zero: a table is gone into
abbrev pub met_word : Layout → (number : ℕ) → Found → View → View
met_word f number (table address) v = deeper f (frame_named f address) number (lowest v.path) v
met_word f number _ v = v

abbrev pub first_page : Layout → (number : ℕ) → Option Node → ℕ
first_page f number None = 0
first_page f number (Some x) = entry_first f x.position number

abbrev pub met : Layout → (number found : ℕ) → View → View
met f number found v =
    if found == 0 then met_zero f number (lowest v.path) v else
    met_word f number (f.step (level_at (lowest v.path)) found (first_page f number (lowest v.path))) v

-- the child at an entry of the path's last table is a table of the book, unless it is of the spine
abbrev pub with_child : Layout → (number : ℕ) → Option Node → View → View
with_child f number None v = v
with_child f number (Some x) v = record v { tables = with_table v.levels v.tables (child_at f x.position number) }

abbrev pub frame_of : Option Prepared → ℕ
frame_of None = 0
frame_of (Some x) = x.frame

abbrev pub named_by : Layout → Found → ℕ
named_by f (table address) = frame_named f address
named_by f _ = 0

abbrev pub installed : Layout → (number found : ℕ) → View → View
installed f number found v =
    if found == 0
    then record (deeper f (frame_of v.prepared) number (lowest v.path) (with_child f number (lowest v.path) v)) { prepared = None }
    else deeper f (named_by f (f.step (level_at (lowest v.path)) found (first_page f number (lowest v.path)))) number (lowest v.path)
    (with_child f number (lowest v.path) v)

abbrev pub written : Layout → Piece → View → View
written f x v = record v {
  pieces = add_piece f v.pieces x;
  tables = add_positions v.tables (off_spine v.levels v.path);
  top = max v.top (least_top f v.levels (end_of x.block));
  stores = v.stores ++ Written x ∷ [];
}

abbrev pub cleared : Layout → Piece → View → View
cleared f x v = record v {
  pieces = drop_at f (table_of f x) (number_of f x) v.pieces;
  stores = v.stores ++ Cleared x ∷ [];
}

-- the path's last table is of the tree no more, and its frame is prepared for its position
abbrev pub unlinked : Option Node → View → View
unlinked None v = v
unlinked (Some x) v = record v {
  tables = without_position x.position v.tables;
  path = all_but_last v.path;
  prepared = Some (record { frame = x.frame; position = x.position; bridge = None });
  known = without_position x.position v.known;
}

-- a frame prepared for the spine position over a level
abbrev pub over_top : (frame level : ℕ) → Option ℕ → Prepared
over_top frame level old = record { frame = frame; position = spine_position (level + 1); bridge = old }

-- the spine's positions up to a level, and others
abbrev pub with_spine : (levels level : ℕ) → List Position → List Position
with_spine levels level ps = map spine_position (levels_between (starting_top levels) level) ++ ps

-- the prepared frame is the new top, or the root was another by then
abbrev pub raised : (frame old level found : ℕ) → View → View
raised frame old level found v =
    if found == root_word old level
    then record v {
      top = level + 1;
      prepared = None;
      path = record { frame = frame; position = spine_position (level + 1) } ∷ [];
      known = with_spine v.levels (level + 1) v.known;
    }
    else record v { path = []; known = with_spine v.levels (found % 8) v.known }

abbrev pub after : Layout → Kind → (found : ℕ) → View → View
after f (take frame) found v =
    if found == 0 then record v { purse = frame ∷ v.purse; busy = frame ∷ v.busy }
    else record v { busy = frame ∷ v.busy; taken = v.taken ++ frame ∷ [] }
after f (place frame p) found v =
    record v { purse = rest_of v.purse; prepared = Some (record { frame = frame; position = p; bridge = None }) }
after f (unplace frame) found v = record v { purse = frame ∷ v.purse; prepared = None }
after f (free frame) found v = record v { purse = rest_of v.purse; busy = without frame v.busy }
after f (mark frame end) found v = record v { end = end }
after f (look_tag frame) found v = v
after f load_root found v = record v {
  path = record { frame = found / 8; position = spine_position (found % 8) } ∷ [];
  known = map spine_position (levels_between (starting_top v.levels) (found % 8)) ++ v.known;
  absent = v.absent ++ Top (found % 8) ∷ [];
}
after f (look frame number) found v = met f number found v
after f (install frame number) found v = installed f number found v
after f (write frame number x) found v = written f x v
after f (clear frame number x) found v = cleared f x v
after f (unlink frame number) found v = unlinked (lowest v.path) v
after f (bridge frame old level) found v = record v { prepared = Some (over_top frame level (Some old)) }
after f (unbridge frame level) found v = record v { prepared = Some (over_top frame level None) }
after f (raise frame old level) found v = raised frame old level found v

-- When it may be made, by the view before it.

-- the path's last table is in this frame
abbrev pub IsLowestIn : View → (frame : ℕ) → Type 0
IsLowestIn v frame = (p : Position) × (lowest v.path ≡ Some (record { frame = frame; position = p }))

-- the path's last table is linked at this entry of the one above it, which is in this frame, and is bare; nothing is prepared
pub record MayCut (f : Layout) (v : View) (frame number : ℕ) : Type 0 where
  pub position : Position
  pub child : ℕ
  pub over : lowest (all_but_last v.path) ≡ Some (record { frame = frame; position = position })
  pub last : lowest v.path ≡ Some (record { frame = child; position = child_at f position number })
  pub within : number < 2 ^ f.index
  pub bare : IsBare f v position number
  pub none : v.prepared ≡ None

abbrev pub May : Layout → (n : ℕ) → Kind → View → Type 0
May f n (take frame) v = frame < n
May f n (place frame p) v = ((rest : List ℕ) × (v.purse ≡ frame ∷ rest)) × (v.prepared ≡ None) × IsPosition f p
May f n (unplace frame) v = (p : Position) × (v.prepared ≡ Some (record { frame = frame; position = p; bridge = None }))
May f n (free frame) v = (rest : List ℕ) × (v.purse ≡ frame ∷ rest)
May f n (mark frame end) v = ((front : List ℕ) × (v.purse ≡ front ++ frame ∷ [])) × IsEnd n end
May f n (look_tag frame) v = IsIn v.purse frame
May f n load_root v = v.path ≡ []
May f n (look frame number) v = IsLowestIn v frame × MeetsEntry f v number
May f n (install frame number) v = IsLowestIn v frame × MayInstall f v number
May f n (write frame number x) v = IsLowestIn v frame × MayPut f v number x
May f n (clear frame number x) v = IsLowestIn v frame × MayDrop f v number x
May f n (unlink frame number) v = MayCut f v frame number
May f n (bridge frame old level) v =
    (v.prepared ≡ Some (over_top frame level None)) × (lowest v.path ≡ Some (record { frame = old; position = spine_position level }))
    × (v.top ≤ level)
May f n (unbridge frame level) v = (old : ℕ) × (v.prepared ≡ Some (over_top frame level (Some old)))
May f n (raise frame old level) v = v.prepared ≡ Some (over_top frame level (Some old))

-- What the number found tells the stepper.

-- the frame that follows another in a purse
abbrev pub follows : (frame : ℕ) → Option ℕ → List ℕ → Option ℕ
follows frame end [] = end
follows frame end (x ∷ xs) = if x == frame then first_or end xs else follows frame end xs

pub record RootTells (f : Layout) (n : ℕ) (v : View) (found : ℕ) : Type 0 where
  pub a_frame : found / 8 < n
  pub a_level : found % 8 < f.levels
  pub reaches : v.top ≤ found % 8
  pub exact : v.count ≡ input_pages f → found % 8 ≡ v.top
  pub over_tables : (p : Position) → IsAmong v.tables p → end_of_table f p ≤ pages_of_table f (found % 8)
  pub over_known : (p : Position) → IsAmong v.known p → end_of_table f p ≤ pages_of_table f (found % 8)

-- where the span is the whole space, every table of the tree is the book's or of the spine
abbrev pub IsKnownTable : Layout → View → Position → Type 0
IsKnownTable f v q = v.count ≡ input_pages f → IsAmong v.tables q ⊎ IsTrue (is_spine v.levels q)

-- an entry that meets the span is zero, the word of an own piece, or the pointer to a linked frame
pub data EntryTells (f : Layout) (n : ℕ) (v : View) (p : Position) (number found : ℕ) : Type 0 where
  zero : found ≡ 0 → IsVacant f v p number → EntryTells f n v p number found
  own : (x : Piece) → IsOneOf v.pieces x → IsOwnPiece f v x → pieces_at f p number (x ∷ []) ≡ 1 → pieces_at f p number v.pieces ≡ 1 →
      found ≡ word_of f x → HasNoTableUnder f v p number → EntryTells f n v p number found
  pointer : (frame : ℕ) → frame < n → IsTableLevel f p.level → found ≡ f.pointer p.level (frame_address f frame) →
      IsKnownTable f v (child_at f p number) →
      pieces_at f p number v.pieces ≡ 0 → EntryTells f n v p number found

-- where no own piece stands, it is zero and the child is no table of the tree, or it is such a pointer
pub data InstallTells (f : Layout) (n : ℕ) (v : View) (p : Position) (number found : ℕ) : Type 0 where
  zero : found ≡ 0 → IsVacant f v p number → is_spine v.levels (child_at f p number) ≡ false → InstallTells f n v p number found
  pointer : (frame : ℕ) → frame < n → IsTableLevel f p.level → found ≡ f.pointer p.level (frame_address f frame) →
      IsKnownTable f v (child_at f p number) →
      InstallTells f n v p number found

-- a store of a piece finds zero; where the span is the whole space, the book has the path's tables, and its top
-- reaches over the block
pub record WriteTells (f : Layout) (v : View) (x : Piece) (found : ℕ) : Type 0 where
  pub was_zero : found ≡ 0
  pub same_tables : v.count ≡ input_pages f → (written f x v).tables ≡ v.tables
  pub same_top : v.count ≡ input_pages f → (written f x v).top ≡ v.top

-- a store of zero over a piece finds its word, and no other piece stands there
pub record ClearTells (f : Layout) (v : View) (x : Piece) (found : ℕ) : Type 0 where
  pub was_word : found ≡ word_of f x
  pub alone : pieces_at f (table_of f x) (number_of f x) v.pieces ≡ 1

-- a store of zero over a table finds the pointer to its frame, and the table was one of the book
pub record UnlinkTells (f : Layout) (n : ℕ) (v : View) (found : ℕ) : Type 0 where
  pub child : Node
  pub last : lowest v.path ≡ Some child
  pub a_frame : child.frame < n
  pub was_pointer : found ≡ f.pointer (child.position.level + 1) (frame_address f child.frame)
  pub own : IsAmong v.tables child.position
  pub fewer : length (without_position child.position v.tables) + 1 ≡ length v.tables

-- the number that a raise found is a root, and where it isn't the old top's, its level is higher
pub record RaiseTells (f : Layout) (n : ℕ) (v : View) (old level found : ℕ) : Type 0 where
  pub root : RootTells f n v found
  pub won : found ≡ root_word old level → found % 8 ≡ level
  pub lost : found ≢ root_word old level → level < found % 8
  pub legal : level + 1 < f.levels

abbrev pub Tells : Layout → (n : ℕ) → Kind → View → (found : ℕ) → Type 0
Tells f n (take frame) v found = found ≡ 0 → length v.purse < n
Tells f n (look_tag frame) v found = found ≡ held_word (follows frame v.end v.purse)
Tells f n load_root v found = RootTells f n v found
Tells f n (look frame number) v found = (p : Position) → IsEntryAt f v p number → EntryTells f n v p number found
Tells f n (install frame number) v found = (p : Position) → IsEntryAt f v p number → InstallTells f n v p number found
Tells f n (write frame number x) v found = WriteTells f v x found
Tells f n (clear frame number x) v found = ClearTells f v x found
Tells f n (unlink frame number) v found = UnlinkTells f n v found
Tells f n (raise frame old level) v found = RaiseTells f n v old level found
Tells f n _ v found = Unit {0}

-- The law of a kind: whatever the words and the other views are, the step keeps the rule, and the number
-- found tells what it says.
abbrev pub Keeps : Layout → (n l : ℕ) → Kind → Type 0
Keeps f n l k =
    (words : List ℕ) (views : List View) (id : ℕ) (v : View) → Lawful f n l words views → get_elem? views id ≡ some v →
    0 < v.count → May f n k v →
    let found = slice_index words (place_of f n k) in
    Lawful f n l (slice_set words (place_of f n k) (put f k v found)) (slice_set views id (after f k found v)) × Tells f n k v found

-- The view of a holder whose path is only the front of its seat's: each step first cuts the path to it.
abbrev pub retrace : List Node → View → View
retrace path v = record v { path = path }

-- the law of a kind for such a holder
abbrev pub KeepsCut : Layout → (n l : ℕ) → Kind → Type 0
KeepsCut f n l k =
    (words : List ℕ) (views : List View) (id : ℕ) (v : View) (path rest : List Node) → Lawful f n l words views →
    get_elem? views id ≡ some v →
    0 < v.count → v.path ≡ path ++ rest → May f n k (retrace path v) →
    let found = slice_index words (place_of f n k) in
    Lawful f n l (slice_set words (place_of f n k) (put f k (retrace path v) found)) (slice_set views id (after f k found (retrace path v)))
    × Tells f n k (retrace path v) found

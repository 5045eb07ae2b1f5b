-- What views are: the range that no step changes, rest, and the book of a view at rest.
use Rattle.std.specs.Prelude.{◌≡◌, ℕ, ◌+◌, List, [], length, None}
use Rattle.pt_model.specs.declared.block.Block.{Block}
use Rattle.pt_model.specs.Layout.{Layout}
use Rattle.pt_model.specs.declared.position.Position.{Position}
use Rattle.pt_model.specs.Tables.{levels_between, starting_top}
use Rattle.pt_model.specs.Book.{Book, IsLawful}
use Rattle.pt_view.specs.declared.view.View.{View}
use Rattle.pt_view.specs.Pieces.{all_pieces}

-- the one spent view: all numbers are 0, and all lists are empty
abbrev pub spent : View
spent = record {
  frames = 0;
  levels = 0;
  first = 0;
  count = 0;
  pieces = [];
  tables = [];
  top = 0;
  purse = [];
  end = None;
  path = [];
  prepared = None;
  busy = [];
  known = [];
  taken = [];
  absent = [];
  stores = [];
}

-- what no step changes
pub record SameRange (v w : View) : Type 0 where
  pub frames : w.frames ≡ v.frames
  pub levels : w.levels ≡ v.levels
  pub first : w.first ≡ v.first
  pub count : w.count ≡ v.count

-- the parts of a view that a call may keep
pub record SameBook (v w : View) : Type 0 where
  pub pieces : w.pieces ≡ v.pieces
  pub tables : w.tables ≡ v.tables
  pub top : w.top ≡ v.top

pub record SamePurse (v w : View) : Type 0 where
  pub purse : w.purse ≡ v.purse
  pub end : w.end ≡ v.end

pub record SameHistory (v w : View) : Type 0 where
  pub taken : w.taken ≡ v.taken
  pub absent : w.absent ≡ v.absent
  pub stores : w.stores ≡ v.stores

-- a view at rest: no path, nothing prepared, no end mark, and its pieces are all the pieces of these blocks
pub record IsAtRest (f : Layout) (v : View) (blocks : List Block) : Type 0 where
  pub path : v.path ≡ []
  pub prepared : v.prepared ≡ None
  pub end : v.end ≡ None
  pub pieces : v.pieces ≡ all_pieces f blocks

-- some blocks are those of a view at rest
abbrev pub Rests : Layout → View → Type 0
Rests f v = (blocks : List Block) × IsAtRest f v blocks

-- the book of a view at rest
abbrev pub book_of : View → List Block → Book
book_of v blocks = record { first = v.first; count = v.count; blocks = blocks; tables = v.tables; top = v.top }

-- at rest the book is lawful; and a view at rest is still so
abbrev pub IsLawfulAtRest : Layout → View → Type 0
IsLawfulAtRest f v = (blocks : List Block) → IsAtRest f v blocks → IsLawful f v.levels (book_of v blocks)

abbrev pub KeepsRest : Layout → (old new : View) → Type 0
KeepsRest f old new = (blocks : List Block) → IsAtRest f old blocks → IsAtRest f new blocks

-- the linked positions that a view of the whole space knows: its tables, and the spine up to its top
abbrev pub linked_of : View → ℕ
linked_of v = length v.tables + length (levels_between (starting_top v.levels) v.top)

-- what a holder has set aside: blocks outside its span, and linked positions that its book doesn't have
pub record Aside : Type 0 where
  pub blocks : List Block
  pub positions : List Position

-- the linked positions of the words of a lone holder: its tables, the spine up to its top, and those set aside
abbrev pub linked_count : View → Aside → ℕ
linked_count v aside = linked_of v + length aside.positions

-- a call leaves the space that the holder is of and what it has set aside, and a holder that was alone is alone
pub record Stays {X S : Type 0} (space : X → S) (aside : X → Aside) (alone : X → Type 0) (old new : X) : Type 0 where
  pub same_space : space new ≡ space old
  pub same_aside : aside new ≡ aside old
  pub still_alone : alone old → alone new

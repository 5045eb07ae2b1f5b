-- The way of a walk over a range: where it stands in the tables, and the blocks that are left.
use Rattle.std.specs.Prelude.{◌≡◌, ℕ, ◌+◌, ◌-◌, ◌*◌, ◌<◌, ◌≤◌, nat_lt, ◌&&◌, Bool, List, [], ◌∷◌, ◌++◌, length, filter, find, Option, Some, None}
use Rattle.pt_model.specs.declared.block.Block.{Block}
use Rattle.pt_model.specs.Layout.{Layout, input_pages}
use Rattle.pt_model.specs.Tables.{position_over}
use Rattle.pt_model.specs.Book.{lowest_mapped, meets}
use Rattle.pt_format.specs.Words.{IsUnder, MayBeLeaf}
use Rattle.pt_view.specs.declared.view.View.{View}
use Rattle.pt_view.specs.declared.view.Node.{Node}
use Rattle.pt_view.specs.Views.{IsAtRest, IsLawfulAtRest, book_of}
use Rattle.pt_walk.specs.declared.way.Way.{Way}
use Rattle.pt_walk.specs.Walks.{IsClear, Rests}

-- this word, in a table of this level, is the one over a page that a block has there
pub record IsBlockOf (f : Layout) (level word page : ℕ) (b : Block) : Type 0 where
  pub part : ℕ
  pub may : MayBeLeaf f level b.log2 b.out b.prot part
  pub word_is : word ≡ f.leaf level b.log2 b.out b.prot part
  pub under : IsUnder f level b.log2 b.first part page

-- the pages asked for are the holder's
pub record HasSpan (v : View) (first count : ℕ) : Type 0 where
  pub from : v.first ≤ first
  pub to : first + count ≤ v.first + v.count

-- the view with its path left
abbrev pub rested : View → View
rested v = record v { path = [] }

-- what a view on the way knows of its book: at rest it is lawful
pub record HasBook (f : Layout) (v : View) : Type 0 where
  pub levels : f.start ≤ v.levels
  pub rests : Rests f (rested v)
  pub lawful : IsLawfulAtRest f (rested v)

-- a table of the way: it is over the last page that is to be gone through there, it begins at page `at` or
-- before it, and no piece of a higher level has a page that is left there
pub record HasTable (f : Layout) (v : View) (at end level to : ℕ) (x : Node) : Type 0 where
  pub is : x.position ≡ position_over f (to - 1) level
  pub from : (position_over f (to - 1) level).base ≤ at
  pub within : to ≤ end
  pub clear : IsClear f v at to level

-- the tables of the way, from the root's on; the last one is of this level
abbrev pub HasTables : Layout → View → (at end level : ℕ) → List ℕ → List Node → Type 0
HasTables f v at end level [] [] = Unit {0}
HasTables f v at end level [] (x ∷ xs) = ⊥
HasTables f v at end level (to ∷ tos) [] = ⊥
HasTables f v at end level (to ∷ tos) (x ∷ xs) = HasTable f v at end (level + length tos) to x × HasTables f v at end level tos xs

-- the first of a list is this number
abbrev pub Begins : ℕ → List ℕ → Type 0
Begins end [] = ⊥
Begins end (to ∷ tos) = to ≡ end

-- the holder's path is the way's
pub record IsOnWay (f : Layout) (v : View) (w : Way) : Type 0 where
  pub few : w.level + length w.above.items < f.levels
  pub begins : Begins w.end (w.above.items ++ w.to ∷ [])
  pub tables : HasTables f v w.at w.end w.level (w.above.items ++ w.to ∷ []) v.path
  pub in_space : w.end ≤ input_pages f
  pub from : v.first ≤ w.at
  pub inside : w.end ≤ v.first + v.count
  pub book : HasBook f v

-- the same, and the next page is one of the last table's
pub record IsWalking (f : Layout) (v : View) (w : Way) : Type 0 where
  pub way : IsOnWay f v w
  pub here : w.at < w.end → w.at < w.to

-- whether a block meets the pages that are left
abbrev pub is_left : ℕ → ℕ → Block → Bool
is_left at end b = nat_lt at end && meets at end b

-- the blocks that are left
abbrev pub left_of : Way → List Block → List Block
left_of w blocks = filter (is_left w.at w.end) blocks

-- a step met a block, or none
abbrev pub Comes : Option Block → (old new : List Block) → Type 0
Comes None old new = old ≡ new
Comes (Some b) old new = old ≡ b ∷ new

-- the next block is the first one that was left
abbrev pub HasNext : Option Block → (old new : List Block) → Type 0
HasNext None old new = (old ≡ []) × (new ≡ [])
HasNext (Some b) old new = old ≡ b ∷ new

-- what a walk says of the blocks of a view at rest: those that are left at its begin, a step of it, and its next block
abbrev pub BeginsWith : Layout → View → (first count : ℕ) → Way → Type 0
BeginsWith f v first count w = (blocks : List Block) → IsAtRest f v blocks → 0 < count → left_of w blocks ≡ filter (meets first (first + count)) blocks

abbrev pub GivesStep : Layout → View → Option Block → (old new : Way) → Type 0
GivesStep f v found old new = (blocks : List Block) → IsAtRest f (rested v) blocks → Comes found (left_of old blocks) (left_of new blocks)

abbrev pub GivesNext : Layout → View → Option Block → (old new : Way) → Type 0
GivesNext f v found old new = (blocks : List Block) → IsAtRest f (rested v) blocks → HasNext found (left_of old blocks) (left_of new blocks)

-- the lowest block that meets a span, and its lowest mapped page
abbrev pub IsFirstBlock : Layout → View → (first count : ℕ) → Option Block → Type 0
IsFirstBlock f v first count found =
    (blocks : List Block) → IsAtRest f v blocks → 0 < count → found ≡ find (meets first (first + count)) blocks

abbrev pub IsFirstMapped : Layout → View → (first count : ℕ) → Option ℕ → Type 0
IsFirstMapped f v first count found =
    (blocks : List Block) → IsAtRest f v blocks → 0 < count → found ≡ lowest_mapped (book_of v blocks) first (first + count)

-- what falls with each step: the pages that are left, and the levels below
abbrev pub work_of : Way → ℕ
work_of w = (w.end - w.at) * 6 + w.level

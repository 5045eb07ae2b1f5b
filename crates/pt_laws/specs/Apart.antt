-- A book beside others: what the run of the whole has more than the run of a part.
use Rattle.std.specs.Prelude.{◌≡◌, ◌⊎◌, ◌↔◌, ℕ, zero, suc, ◌≤◌, ◌<◌, Bool, true, false, List, [], ◌∷◌, ◌++◌, max}
use Rattle.pt_model.specs.declared.block.Block.{Block}
use Rattle.pt_model.specs.declared.position.Position.{Position}
use Rattle.pt_model.specs.declared.command.What.{What}
use Rattle.pt_model.specs.declared.command.What.TheVariants.{Fork, With, End}
use Rattle.pt_model.specs.declared.command.Command.{Command}
use Rattle.pt_model.specs.Layout.{Layout, end_of}
use Rattle.pt_model.specs.Sets.{IsSorted, IsAmong}
use Rattle.pt_model.specs.Book.{Book, span_end, table_lies_in, table_meets}
use Rattle.pt_model.specs.Run.{Opened, Refused, Cut, State}

-- all end before page n, and all begin from page n on
abbrev pub EndBy : ℕ → List Block → Type 0
EndBy n [] = Unit {0}
EndBy n (b ∷ bs) = (end_of b ≤ n) × EndBy n bs

abbrev pub BeginFrom : ℕ → List Block → Type 0
BeginFrom n [] = Unit {0}
BeginFrom n (b ∷ bs) = (n ≤ b.first) × BeginFrom n bs

-- blocks that lie in the pages from `lo` to before `hi`
abbrev pub LieIn : ℕ → ℕ → List Block → Type 0
LieIn lo hi [] = Unit {0}
LieIn lo hi (b ∷ bs) = (lo ≤ b.first) × (b.first < hi) × (end_of b ≤ hi) × LieIn lo hi bs

-- what stands outside the pages from `lo` to before `hi`: blocks, tables that don't lie in them, a top; and tables
-- of the part that don't lie in it, and that it keeps
pub record Rest (f : Layout) (lo hi : ℕ) : Type 1 where
  pub front : List Block
  pub back : List Block
  pub tables : Position → Type 0
  pub top : ℕ
  pub front_ends : EndBy lo front
  pub back_begins : BeginFrom hi back
  pub tables_outside : (p : Position) → tables p → table_lies_in f lo hi p ≡ false
  pub kept : Position → Type 0
  pub kept_outside : (p : Position) → kept p → table_lies_in f lo hi p ≡ false

-- a book with the same span, other blocks around its own, and other tables and top
abbrev pub lifted : (front back : List Block) → (tables : List Position) → (top : ℕ) → Book → Book
lifted front back tables top p = record p { blocks = front ++ (p.blocks ++ back); tables = tables; top = top }

-- the whole book is the part and what stands outside
pub record IsBeside (f : Layout) (lo hi : ℕ) (rest : Rest f lo hi) (whole part : Book) : Type 0 where
  pub tables : List Position
  pub top : ℕ
  pub is : whole ≡ lifted rest.front rest.back tables top part
  pub members : (p : Position) → IsAmong tables p ↔ (IsAmong part.tables p ⊎ rest.tables p)
  pub sorted : IsSorted tables
  pub sorted_part : IsSorted part.tables
  pub top_is : top ≡ max rest.top part.top
  pub low : lo ≤ part.first
  pub high : span_end part ≤ hi
  pub lie : LieIn lo hi part.blocks
  pub meet : (p : Position) → IsAmong part.tables p → table_meets f lo hi p ≡ true
  pub stay : (p : Position) → rest.kept p → IsAmong part.tables p

-- the spans of open forks lie in order inside the pages
abbrev pub AreInside : (lo hi : ℕ) → List Opened → Type 0
AreInside lo hi [] = Unit {0}
AreInside lo hi (Refused ∷ forks) = AreInside lo hi forks
AreInside lo hi (Cut first at last ∷ forks) = (lo ≤ first) × (first ≤ at) × (at ≤ last) × (last ≤ hi) × AreInside lo hi forks

pub record Follows (f : Layout) (lo hi : ℕ) (rest : Rest f lo hi) (outer : List Opened) (w p : State) : Type 0 where
  pub books : IsBeside f lo hi rest w.book p.book
  pub forks : w.forks ≡ p.forks ++ outer
  pub inside : AreInside lo hi p.forks

-- the forks that are open behind a command, none of them an outer one's `with` or `end`
abbrev pub depth_behind : What → ℕ → ℕ
depth_behind (Fork at) depth = suc depth
depth_behind End (suc depth) = depth
depth_behind _ depth = depth

abbrev pub may_stand : What → (depth : ℕ) → Bool
may_stand With zero = false
may_stand End zero = false
may_stand _ _ = true

-- the commands close the forks that they open, and `depth` ones that are open before them
abbrev pub AreClosed : ℕ → List Command → Type 0
AreClosed depth [] = depth ≡ 0
AreClosed depth (c ∷ cs) = (may_stand c.what depth ≡ true) × AreClosed (depth_behind c.what depth) cs

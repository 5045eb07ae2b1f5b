-- The words of blocks.
use Rattle.std.specs.Prelude.{IsTrue, ◌<◌, ◌≤◌, ◌≡◌, ◌⊎◌, nat_le, if◌then◌else◌, ℕ, ◌+◌, ◌-◌, ◌*◌, ◌/◌, ◌%◌, ◌^◌, List, [], ◌∷◌, ◌++◌, map, fold}
use Rattle.std.specs.List.{range_with_len}
use Rattle.pt_model.specs.declared.block.Block.{Block}
use Rattle.pt_model.specs.Layout.{Layout, IsLegalBlock, level_of_size, pages_of_entry}
use Rattle.pt_model.specs.declared.position.Position.{Position}
use Rattle.pt_model.specs.Tables.{position_over}
use Rattle.pt_view.specs.declared.view.Piece.{Piece}

-- the number of words of a block
abbrev pub words_of : Layout → Block → ℕ
words_of f b = 2 ^ (b.log2 - f.index * level_of_size f b.log2)

abbrev pub level_of : Layout → Piece → ℕ
level_of f piece = level_of_size f piece.block.log2

-- the first page under a piece
abbrev pub first_of : Layout → Piece → ℕ
first_of f piece = piece.block.first + piece.part * pages_of_entry f (level_of f piece)

-- the number of the entry over a page, in a table of a level
abbrev pub entry_number : Layout → (level page : ℕ) → ℕ
entry_number f level page = page / pages_of_entry f level % 2 ^ f.index

-- the number of a table's entry in the table above it
abbrev pub entry_number_of : Layout → Position → ℕ
entry_number_of f p = entry_number f (p.level + 1) p.base

-- the table in which a piece stands, and its entry there
abbrev pub table_of : Layout → Piece → Position
table_of f piece = position_over f (first_of f piece) (level_of f piece)

abbrev pub number_of : Layout → Piece → ℕ
number_of f piece = entry_number f (level_of f piece) (first_of f piece)

-- a page is one of those under a piece
abbrev pub IsUnderPiece : Layout → Piece → (page : ℕ) → Type 0
IsUnderPiece f x page = (first_of f x ≤ page) × (page < first_of f x + pages_of_entry f (level_of f x))

-- the word of a piece
abbrev pub word_of : Layout → Piece → ℕ
word_of f piece = f.leaf (level_of f piece) piece.block.log2 piece.block.out piece.block.prot piece.part

-- a word of a legal block that the format can state
pub record IsLegalPiece (f : Layout) (x : Piece) : Type 0 where
  pub a_part : x.part < words_of f x.block
  pub legal : IsLegalBlock f x.block
  pub stated : IsTrue (f.states x.block.prot)

abbrev pub pieces_of : Layout → Block → List Piece
pieces_of f b = map (λ part. record { block = b; part = part }) (range_with_len 0 (words_of f b))

-- a piece is one of a list
abbrev pub IsOneOf : List Piece → Piece → Type 0
IsOneOf [] x = ⊥
IsOneOf (y ∷ ys) x = (y ≡ x) ⊎ IsOneOf ys x

-- a piece put into a list in the order of first pages
abbrev pub add_piece : Layout → List Piece → Piece → List Piece
add_piece f [] x = x ∷ []
add_piece f (y ∷ ys) x = if nat_le (first_of f y) (first_of f x) then y ∷ add_piece f ys x else x ∷ (y ∷ ys)

-- the pieces of a list put in one by one
abbrev pub add_pieces : Layout → (old new : List Piece) → List Piece
add_pieces f old new = fold (add_piece f) old new

-- so many pieces, by their numbers from 0 on
abbrev pub pieces_by : (ℕ → Piece) → (count : ℕ) → List Piece
pieces_by piece count = map piece (range_with_len 0 count)

-- all pieces of blocks, in order
abbrev pub all_pieces : Layout → List Block → List Piece
all_pieces f [] = []
all_pieces f (b ∷ bs) = pieces_of f b ++ all_pieces f bs

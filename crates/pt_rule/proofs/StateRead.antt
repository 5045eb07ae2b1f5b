-- What is read of small states: the state with a mapped page, the same with a prepared frame, and a block of two pages.
use Rattle.std.proofs.Common.{◌≡◌, ℕ, ◌+◌, ◌*◌, ◌^◌, List, [], ◌∷◌, refl, Some, None}
use Rattle.pt_model.specs.declared.block.Prot.TheVariants.{Read}
use Rattle.pt_model.specs.Layout.{Layout}
use Rattle.pt_view.specs.declared.view.Piece.{Piece}
use Rattle.pt_rule.specs.WholeView.{piece_in, pieces_in, prepared_frame, tables_in}
use Rattle.pt_rule.proofs.StateMapped.{small, at, mapped_view, mapped_words, new_view, new_words}

-- a new space has no table off the spine and no piece
pub none_new : (tables_in 2 None new_words 4 ≡ new_view.tables) × (pieces_in small 4 None new_words 4 ≡ new_view.pieces)
none_new = (refl, refl)

pub mapped_tables : tables_in 2 (prepared_frame mapped_view.prepared) mapped_words 4 ≡ mapped_view.tables
mapped_tables = refl

pub mapped_pieces : pieces_in small 4 (prepared_frame mapped_view.prepared) mapped_words 4 ≡ mapped_view.pieces
mapped_pieces = refl

-- a frame that is prepared is not read
pub prepared_unread : (tables_in 2 (Some 1) mapped_words 4 ≡ []) × (pieces_in small 4 (Some 1) mapped_words 4 ≡ [])
prepared_unread = (refl, refl)

-- The same format, but its leaves tell the size of their block: the pages 4 and 5 are mapped to the pages 8 and 9, and
-- page 6 to page 1. Frame 3 is the table at page 8, and page 8 is mapped to page 2.
abbrev sized : Layout
sized = record small { leaf = λ level log2 out p part. (out + part) * 2 ^ 12 + 1 + 4 * log2 }

abbrev sized_words : List ℕ
sized_words = 1 ∷ 6 ∷ 130 ∷ 1 ∷ 258 ∷ (0 ∷ 4294971395 ∷ 4294979587 ∷ 0 ∷ (32773 ∷ 36869 ∷ 4097 ∷ 0 ∷ (0 ∷ 0 ∷ 0 ∷ 0 ∷ (8193 ∷ 0 ∷ 0 ∷ 0 ∷ []))))

abbrev piece : (first log2 out part : ℕ) → Piece
piece first log2 out part = record { block = record { first = first; log2 = log2; out = out; prot = Read }; part = part }

pub sized_tables : tables_in 2 None sized_words 4 ≡ at 0 4 ∷ at 0 8 ∷ []
sized_tables = refl

pub sized_pieces : pieces_in sized 4 None sized_words 4 ≡ piece 4 1 8 0 ∷ piece 4 1 8 1 ∷ piece 6 0 1 0 ∷ piece 8 0 2 0 ∷ []
sized_pieces = refl

-- a word of a block's second part at an entry for a first one is no piece's
pub turned : piece_in sized (at 0 4) 0 36869 ≡ None
turned = refl

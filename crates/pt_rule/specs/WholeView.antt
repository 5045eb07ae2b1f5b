-- The pieces and the tables of a view of the whole space, read from the words. `prepared` is the frame that the
-- view prepares, if any.
use Rattle.std.specs.Prelude.{◌≡◌, ℕ, zero, suc, ◌+◌, ◌-◌, ◌*◌, ◌/◌, ◌%◌, ◌^◌, nat_le, nat_lt, ◌==◌, ◌&&◌, not, Bool, false, List, [], Option, None, Some, option_map, find, if◌then◌else◌}
use mathlib.Core.Option.{some}
use lib.ListN.{get_elem?}
use Rattle.pt_model.specs.declared.block.Prot.{Prot}
use Rattle.pt_model.specs.declared.position.Position.{Position}
use Rattle.pt_model.specs.Layout.{Layout, Found, nothing, page, table, alien, input_pages, output_pages, pages_of_entry}
use Rattle.pt_model.specs.Tables.{add_position, is_spine}
use Rattle.pt_model.specs.Words.{tag, placed_at, entry_of, root_level}
use Rattle.pt_format.specs.Laws.{IsLayout, WordsDiffer}
use Rattle.pt_format.specs.Manual.{StepsAgree}
use Rattle.pt_view.specs.declared.view.View.{View}
use Rattle.pt_view.specs.declared.view.Piece.{Piece}
use Rattle.pt_view.specs.declared.view.Prepared.{Prepared}
use Rattle.pt_view.specs.Pieces.{add_piece, level_of, word_of, words_of}
use Rattle.pt_view.specs.Calls.{entry_first}
use Rattle.pt_rule.specs.Tags.{is_placed}
use Rattle.pt_rule.specs.Lawful.{Lawful}

-- the frame that is prepared, if any
abbrev pub prepared_frame : Option Prepared → Option ℕ
prepared_frame None = None
prepared_frame (Some x) = Some x.frame

-- whether a frame is this one
abbrev pub is_frame : (frame : ℕ) → Option ℕ → Bool
is_frame frame None = false
is_frame frame (Some prepared) = prepared == frame

-- whether a frame is linked: its tag says that it is placed, and it isn't the prepared one
abbrev pub is_linked_in : (prepared : Option ℕ) → List ℕ → (frame : ℕ) → Bool
is_linked_in prepared words frame = is_placed (tag words frame) && not (is_frame frame prepared)

-- whether a frame is linked at a position off the spine
abbrev pub is_table_in : (l : ℕ) (prepared : Option ℕ) → List ℕ → (frame : ℕ) → Bool
is_table_in l prepared words frame = is_linked_in prepared words frame && not (is_spine l (placed_at (tag words frame)))

-- the positions off the spine at which the first n frames are linked, in order
abbrev pub tables_in : (l : ℕ) (prepared : Option ℕ) → List ℕ → (n : ℕ) → List Position
tables_in l prepared words zero = []
tables_in l prepared words (suc frame) =
    if is_table_in l prepared words frame
    then add_position (tables_in l prepared words frame) (placed_at (tag words frame))
    else tables_in l prepared words frame

-- the piece of a block of 2 ^ log2 pages that maps page `first` of its entry onto page `out`
abbrev pub piece_of_size : Layout → (level first out : ℕ) → Prot → (log2 : ℕ) → Piece
piece_of_size f level first out prot log2 = record {
  block = record { first = first / 2 ^ log2 * 2 ^ log2; log2 = log2; out = out - first % 2 ^ log2; prot = prot };
  part = first % 2 ^ log2 / pages_of_entry f level;
}

-- whether a piece is one that may stand in a table of a level, and has this word
abbrev pub has_this_word : Layout → (level word : ℕ) → Piece → Bool
has_this_word f level word x =
    (level_of f x == level) && ((x.block.out % 2 ^ x.block.log2 == 0) && (nat_le (x.block.out + 2 ^ x.block.log2) (output_pages f)
    && (f.states x.block.prot && (nat_lt x.part (words_of f x.block) && (word_of f x == word)))))

-- the piece of the first size of which one is at an entry that begins at page `first`, and has this word
abbrev pub piece_found : Layout → (level word first : ℕ) → Found → Option Piece
piece_found f level word first nothing = None
piece_found f level word first (page out prot) =
    option_map (piece_of_size f level first out prot) (find (λ log2. has_this_word f level word
    (piece_of_size f level first out prot log2)) f.sizes)
piece_found f level word first (table address) = None
piece_found f level word first alien = None

-- the piece whose word stands at an entry of the table at a position, if it is one's
abbrev pub piece_in : Layout → Position → (number word : ℕ) → Option Piece
piece_in f p number word = piece_found f p.level word (entry_first f p number) (f.step p.level word (entry_first f p number))

-- a piece, if any, put among others in the order of first pages
abbrev pub with_piece : Layout → List Piece → Option Piece → List Piece
with_piece f pieces None = pieces
with_piece f pieces (Some x) = add_piece f pieces x

-- the pieces at the first `count` entries of a linked frame, put among others
abbrev pub pieces_with_frame : Layout → (n : ℕ) → List ℕ → (frame : ℕ) → List Piece → (count : ℕ) → List Piece
pieces_with_frame f n words frame pieces zero = pieces
pieces_with_frame f n words frame pieces (suc number) =
    with_piece f (pieces_with_frame f n words frame pieces number) (piece_in f (placed_at (tag words frame)) number
    (entry_of f n words frame number))

-- the pieces at the entries of the first so many frames that are linked, in the order of their first pages
abbrev pub pieces_in : Layout → (n : ℕ) (prepared : Option ℕ) → List ℕ → (frames : ℕ) → List Piece
pieces_in f n prepared words zero = []
pieces_in f n prepared words (suc frame) =
    if is_linked_in prepared words frame
    then pieces_with_frame f n words frame (pieces_in f n prepared words frame) (2 ^ f.index)
    else pieces_in f n prepared words frame

-- the book of a view of the whole space is a function of the words and the prepared frame
abbrev pub WholeIsRead : Type 0
WholeIsRead =
    (f : Layout) → IsLayout f → WordsDiffer f → StepsAgree f → (n l : ℕ) (words : List ℕ) (views : List View) (id : ℕ) (v : View) →
    Lawful f n l words views → get_elem? views id ≡ some v → v.count ≡ input_pages f →
    (v.pieces ≡ pieces_in f n (prepared_frame v.prepared) words n) × (v.tables ≡ tables_in l (prepared_frame v.prepared) words n)
    × (v.top ≡ root_level words) × (v.first ≡ 0)

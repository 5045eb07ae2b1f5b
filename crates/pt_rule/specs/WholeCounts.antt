-- The entries of the words of a view of the whole space, and what is counted of the view from the words alone.
use Rattle.std.specs.Prelude.{◌≡◌, ℕ, zero, suc, ◌+◌, ◌%◌, ◌^◌, ◌<◌, ◌≤◌, ◌==◌, List, [], ◌∷◌, length, Option, None, Some, IsTrue, if◌then◌else◌}
use mathlib.Core.Option.{some}
use lib.ListN.{get_elem?}
use Rattle.pt_model.specs.declared.position.Position.{Position}
use Rattle.pt_model.specs.declared.block.Block.{Block}
use Rattle.pt_model.specs.Layout.{Layout, input_pages, pages_of_entry}
use Rattle.pt_model.specs.Unmap.{pages_in}
use Rattle.pt_model.specs.Tables.{child_at}
use Rattle.pt_model.specs.Sets.{one_if}
use Rattle.pt_model.specs.Words.{tag, placed_at, entry_of, frame_address}
use Rattle.pt_format.specs.declared.read.Read.{Read}
use Rattle.pt_format.specs.declared.read.Read.TheVariants.{Empty, Table, Leaf, Alien}
use Rattle.pt_format.specs.Reading.{ReadsAs}
use Rattle.pt_format.specs.Words.{IsTableLevel, words_in}
use Rattle.pt_format.specs.Laws.{IsLayout, WordsDiffer}
use Rattle.pt_format.specs.Manual.{StepsAgree}
use Rattle.pt_view.specs.declared.view.View.{View}
use Rattle.pt_view.specs.declared.view.Piece.{Piece}
use Rattle.pt_view.specs.Pieces.{IsLegalPiece, IsOneOf, level_of, word_of}
use Rattle.pt_view.specs.Views.{IsAtRest, linked_of}
use Rattle.pt_view.specs.Calls.{pieces_at}
use Rattle.pt_rule.specs.Totals.{total}
use Rattle.pt_rule.specs.Linked.{IsLinkedAt}
use Rattle.pt_rule.specs.Lawful.{Lawful}
use Rattle.pt_rule.specs.WholeView.{is_linked_in, piece_in, prepared_frame}

-- An entry of a table: zero where nothing stands there, the word of the one piece that stands there, or the pointer to
-- the table that is linked there.
pub data StandsAt (f : Layout) (n : ℕ) (words : List ℕ) (v : View) (p : Position) (number word : ℕ) : Type 0 where
  nothing : word ≡ 0 → pieces_at f p number v.pieces ≡ 0 → StandsAt f n words v p number word
  a_part : (x : Piece) → IsOneOf v.pieces x → IsLegalPiece f x → pieces_at f p number (x ∷ []) ≡ 1 → pieces_at f p number v.pieces ≡ 1 →
      word ≡ word_of f x → StandsAt f n words v p number word
  a_table : (frame : ℕ) → IsLinkedAt n words (v ∷ []) frame (child_at f p number) → IsTableLevel f p.level →
      word ≡ f.pointer p.level (frame_address f frame) → pieces_at f p number v.pieces ≡ 0 → StandsAt f n words v p number word

-- each entry of each linked frame is so
abbrev pub EntriesAreRead : Type 0
EntriesAreRead =
    (f : Layout) → IsLayout f → (n l : ℕ) (words : List ℕ) (views : List View) (id : ℕ) (v : View) → Lawful f n l words views →
    get_elem? views id ≡ some v →
    v.count ≡ input_pages f →
    (frame number : ℕ) → frame < n → number < 2 ^ f.index → IsTrue (is_linked_in (prepared_frame v.prepared) words frame) →
    StandsAt f n words v (placed_at (tag words frame)) number (entry_of f n words frame number)

-- how many of the first n frames are linked
abbrev pub linked_frames_in : (prepared : Option ℕ) → List ℕ → (n : ℕ) → ℕ
linked_frames_in prepared words zero = 0
linked_frames_in prepared words (suc frame) = linked_frames_in prepared words frame + one_if (is_linked_in prepared words frame)

-- they are as many as the linked positions
abbrev pub TagsAreCounted : Type 0
TagsAreCounted =
    (f : Layout) → IsLayout f → (n l : ℕ) (words : List ℕ) (views : List View) (id : ℕ) (v : View) → Lawful f n l words views →
    get_elem? views id ≡ some v →
    v.count ≡ input_pages f → linked_of v ≡ linked_frames_in (prepared_frame v.prepared) words n

-- a number of each piece: of the one at an entry, if any; of those at the first entries of a frame, added up; of those in
-- the first so many frames that are linked
abbrev pub if_any : (number : Piece → ℕ) → Option Piece → ℕ
if_any number None = 0
if_any number (Some x) = number x

abbrev pub added_in_frame : Layout → (n : ℕ) → List ℕ → (number : Piece → ℕ) → (frame count : ℕ) → ℕ
added_in_frame f n words number frame zero = 0
added_in_frame f n words number frame (suc entry) =
    added_in_frame f n words number frame entry
    + if_any number (piece_in f (placed_at (tag words frame)) entry (entry_of f n words frame entry))

abbrev pub added_in : Layout → (n : ℕ) (prepared : Option ℕ) → List ℕ → (number : Piece → ℕ) → (frames : ℕ) → ℕ
added_in f n prepared words number zero = 0
added_in f n prepared words number (suc frame) =
    added_in f n prepared words number frame
    + (if is_linked_in prepared words frame then added_in_frame f n words number frame (2 ^ f.index) else 0)

-- what a number of each piece of the view adds up to is read from the words
abbrev pub PiecesAreAdded : Type 0
PiecesAreAdded =
    (f : Layout) → IsLayout f → WordsDiffer f → StepsAgree f → (n l : ℕ) (words : List ℕ) (views : List View) (id : ℕ) (v : View) →
    Lawful f n l words views → get_elem? views id ≡ some v → v.count ≡ input_pages f → (number : Piece → ℕ) →
    total number v.pieces ≡ added_in f n (prepared_frame v.prepared) words number n

-- What the word of an entry reads as tells of the piece there: at zero and at a pointer there is none; at a leaf there is one of
-- the table's level, the first of its block where the entry's number is a multiple of the block's words; none is alien.
abbrev pub TellsPiece : Layout → (level number : ℕ) → Read → Option Piece → Type 0
TellsPiece f level number Empty found = found ≡ None
TellsPiece f level number (Table address) found = found ≡ None
TellsPiece f level number (Leaf log2 prot) found =
    (x : Piece) × (found ≡ Some x) × (level_of f x ≡ level) × ((x.part == 0) ≡ (number % words_in f level log2 == 0))
TellsPiece f level number Alien found = ⊥

abbrev pub ReadingsTell : Type 0
ReadingsTell =
    (f : Layout) → IsLayout f → WordsDiffer f → StepsAgree f → (n l : ℕ) (words : List ℕ) (views : List View) (id : ℕ) (v : View) →
    Lawful f n l words views → get_elem? views id ≡ some v → v.count ≡ input_pages f →
    (frame number : ℕ) → frame < n → number < 2 ^ f.index → IsTrue (is_linked_in (prepared_frame v.prepared) words frame) → (read : Read) →
    let p = placed_at (tag words frame) in
    let word = entry_of f n words frame number in
    ReadsAs f p.level word read → TellsPiece f p.level number read (piece_in f p number word)

-- 1 for the first piece of each block, and the pages of a piece
abbrev pub counts_block : Piece → ℕ
counts_block x = one_if (x.part == 0)

abbrev pub counts_pages : Layout → Piece → ℕ
counts_pages f x = pages_of_entry f (level_of f x)

-- the census of a view of the whole space at rest, over the words: its linked positions, its blocks and their pages
pub record IsCounted (f : Layout) (n : ℕ) (words : List ℕ) (v : View) (blocks : List Block) : Type 0 where
  pub tables : linked_of v ≡ linked_frames_in None words n
  pub blocks_are : length blocks ≡ added_in f n None words counts_block n
  pub pages : pages_in blocks ≡ added_in f n None words (counts_pages f) n
  pub few : pages_in blocks ≤ input_pages f

abbrev pub CensusIsRead : Type 0
CensusIsRead =
    (f : Layout) → IsLayout f → WordsDiffer f → StepsAgree f → (n l : ℕ) (words : List ℕ) (views : List View) (id : ℕ) (v : View) →
    Lawful f n l words views → get_elem? views id ≡ some v → v.count ≡ input_pages f → (blocks : List Block) → IsAtRest f v blocks →
    IsCounted f n words v blocks

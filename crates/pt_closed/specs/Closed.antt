-- The words of a closed space, what is counted over them, and what their walk gives.
use Rattle.std.specs.Prelude.{◌≡◌, ℕ, ◌^◌, ◌<◌, List, [], ◌∷◌, Option, Some, None}
use Rattle.pt_model.specs.declared.block.Block.{Block}
use Rattle.pt_model.specs.declared.block.Prot.{Prot}
use Rattle.pt_model.specs.Layout.{Layout, Reached, at_byte, input_pages, nowhere}
use Rattle.pt_model.specs.Run.{walk_answer}
use Rattle.pt_format.specs.Laws.{IsLayout}
use Rattle.pt_format.specs.Manual.{IsWalk, StepsAgree}
use Rattle.pt_format.specs.declared.read.Read.{Read}
use Rattle.pt_format.specs.Reading.{ReadsAs}
use Rattle.pt_view.specs.declared.view.View.{View}
use Rattle.pt_view.specs.declared.view.Piece.{Piece}
use Rattle.pt_view.specs.Views.{IsAtRest, book_of}
use Rattle.pt_rule.specs.Lawful.{Lawful}
use Rattle.pt_rule.specs.WholeCounts.{TellsPiece, counts_block, counts_pages, if_any}
use Rattle.pt_closed.specs.declared.census.Counted.{Counted}

-- the rule holds of the words with one view of the whole space, which is at rest with these blocks
pub record IsClosed (f : Layout) (n : ℕ) (words : List ℕ) : Type 0 where
  pub levels : ℕ
  pub view : View
  pub lawful : Lawful f n levels words (view ∷ [])
  pub whole : view.count ≡ input_pages f
  pub blocks : List Block
  pub rest : IsAtRest f view blocks

-- what the word of an entry reads as tells of this piece there, if any
abbrev pub IsToldBy : Layout → (level number word : ℕ) → Option Piece → Type 0
IsToldBy f level number word found = (read : Read) → ReadsAs f level word read → TellsPiece f level number read found

-- an entry counts for the block that begins there, if one does, and for the pages under it
pub record CountsPiece (f : Layout) (found : Option Piece) (counted : Counted) : Type 0 where
  pub blocks : counted.blocks ≡ if_any counts_block found
  pub pages : counted.pages ≡ if_any (counts_pages f) found

-- what a walk reaches, by what a book translates an address to
abbrev pub reached : Option (ℕ × Prot) → Reached
reached None = nowhere
reached (Some to) = at_byte to.0 to.1

-- the manual's walk of the words of a closed space gives at each address what its book translates it to
abbrev pub WalkIsBook : Type 0
WalkIsBook =
    (f : Layout) → IsLayout f → StepsAgree f → IsWalk f → (n : ℕ) (words : List ℕ) (closed : IsClosed f n words) (address : ℕ) → address < 2 ^ 64 →
    f.walk words address ≡ reached (walk_answer f (book_of closed.view closed.blocks) address)

-- The manual's walk of lawful words is the union of what the views map.
use Rattle.std.specs.Prelude.{◌≡◌, ◌≢◌, ◌⊎◌, ℕ, ◌+◌, ◌-◌, ◌*◌, ◌%◌, ◌^◌, ◌<◌, ◌≤◌, List, None, Some}
use mathlib.Core.Option.{some}
use lib.ListN.{get_elem?}
use Rattle.pt_model.specs.Layout.{Layout, Reached, nowhere, at_byte, strange, pages_of_entry}
use Rattle.pt_model.specs.Pages.{page_at}
use Rattle.pt_format.specs.Laws.{IsLayout}
use Rattle.pt_format.specs.Manual.{IsWalk, StepsAgree}
use Rattle.pt_view.specs.declared.view.View.{View}
use Rattle.pt_view.specs.declared.view.Piece.{Piece}
use Rattle.pt_view.specs.Pieces.{IsOneOf, first_of, level_of}
use Rattle.pt_rule.specs.Lawful.{Lawful}

-- a piece of a view has a page
pub record IsCovered (f : Layout) (views : List View) (here : ℕ) : Type 0 where
  pub index : ℕ
  pub view : View
  pub at : get_elem? views index ≡ some view
  pub piece : Piece
  pub own : IsOneOf view.pieces piece
  pub from : first_of f piece ≤ here
  pub to : here < first_of f piece + pages_of_entry f (level_of f piece)

-- where a piece's block maps the byte at an address of this page, and what it permits
abbrev pub byte_of_piece : Layout → Piece → (address here : ℕ) → Reached
byte_of_piece f x address here = at_byte ((x.block.out + (here - x.block.first)) * 2 ^ f.granule + address % 2 ^ f.granule) x.block.prot

-- At an address of a page the walk gives what the piece that has the page says, and nothing where none has it; it never meets
-- a word that is strange.
pub record IsUnion (f : Layout) (words : List ℕ) (views : List View) (address here : ℕ) : Type 0 where
  pub found : (x : IsCovered f views here) → f.walk words address ≡ byte_of_piece f x.piece address here
  pub none : ¬ IsCovered f views here → f.walk words address ≡ nowhere
  pub either : IsCovered f views here ⊎ ¬ IsCovered f views here
  pub known : f.walk words address ≢ strange
  pub one : (x y : IsCovered f views here) → x.piece ≡ y.piece

abbrev pub WalkIsUnion : Type 0
WalkIsUnion =
    (f : Layout) → IsLayout f → StepsAgree f → IsWalk f → (n l : ℕ) (words : List ℕ) (views : List View) → Lawful f n l words views →
    (address : ℕ) → address < 2 ^ 64 →
    (page_at f address ≡ None → f.walk words address ≡ nowhere)
    × ((here : ℕ) → page_at f address ≡ Some here → IsUnion f words views address here)

-- Numbers added up over views: every 'exactly one' of the rule is an equation on such a total.
use Rattle.std.specs.Prelude.{◌≡◌, ℕ, ◌+◌, ◌*◌, ◌==◌, nat_lt, nat_le, ◌&&◌, Bool, false, List, [], ◌∷◌, Option, None, Some, if◌then◌else◌}
use mathlib.Core.Option.{some}
use lib.ListN.{get_elem?}
use Rattle.pt_model.specs.declared.position.Position.{Position}
use Rattle.pt_model.specs.Layout.{Layout}
use Rattle.pt_model.specs.Words.{frame_address}
use Rattle.pt_view.specs.declared.view.View.{View}
use Rattle.pt_view.specs.declared.view.Piece.{Piece}
use Rattle.pt_view.specs.declared.view.Prepared.{Prepared}
use Rattle.pt_model.specs.Sets.{one_if, places}
use Rattle.pt_view.specs.Lists.{times}
use Rattle.pt_view.specs.Pieces.{word_of}
use Rattle.pt_view.specs.Calls.{pieces_at}

abbrev pub total : {V : Type 0} → (V → ℕ) → List V → ℕ
total f [] = 0
total f (v ∷ vs) = f v + total f vs

-- P holds of each view
abbrev pub Each : List View → (View → Type 0) → Type 0
Each views P = (j : ℕ) (v : View) → get_elem? views j ≡ some v → P v

-- 1 where the page is in the view's span
abbrev pub covers : (page : ℕ) → View → ℕ
covers page v = one_if (nat_le v.first page && nat_lt page (v.first + v.count))

-- how often the view's purse has a frame
abbrev pub holds : (frame : ℕ) → View → ℕ
holds frame v = times frame v.purse

-- 1 where the view prepares a frame
abbrev pub is_prepared : (frame : ℕ) → Option Prepared → Bool
is_prepared frame None = false
is_prepared frame (Some x) = x.frame == frame

abbrev pub prepares : (frame : ℕ) → View → ℕ
prepares frame v = one_if (is_prepared frame v.prepared)

-- how often the view's tables have a position
abbrev pub has_table : Position → View → ℕ
has_table p v = places p v.tables

-- how many of the view's pieces stand at an entry
abbrev pub has_piece : Layout → Position → (number : ℕ) → View → ℕ
has_piece f p number v = pieces_at f p number v.pieces

-- the words of the pieces of a list that stand at an entry, added up: the word, where there is one
abbrev pub words_at : Layout → Position → (number : ℕ) → List Piece → ℕ
words_at f p number [] = 0
words_at f p number (x ∷ xs) = pieces_at f p number (x ∷ []) * word_of f x + words_at f p number xs

abbrev pub has_word : Layout → Position → (number : ℕ) → View → ℕ
has_word f p number v = words_at f p number v.pieces

-- the pointer that a bridge puts into entry 0 of a prepared frame
abbrev pub bridge_pointer : Layout → (level : ℕ) → Option ℕ → ℕ
bridge_pointer f level None = 0
bridge_pointer f level (Some bridge) = f.pointer level (frame_address f bridge)

abbrev pub bridge_in : Layout → (frame number : ℕ) → Option Prepared → ℕ
bridge_in f frame number None = 0
bridge_in f frame number (Some x) =
    if (x.frame == frame) && (number == 0) then bridge_pointer f x.position.level x.bridge else 0

abbrev pub has_bridge : Layout → (frame number : ℕ) → View → ℕ
has_bridge f frame number v = bridge_in f frame number v.prepared

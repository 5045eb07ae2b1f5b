-- Facts for crates of holders: the rule holds with a view whose path is cut, a view that stands in a list, the words of tags
-- and frames read back, and the one piece that a word at an entry can be.
use Rattle.std.proofs.Common.{◌≡◌, ℕ, ◌<◌, List, ◌++◌, length, set}
use mathlib.Core.Option.{some}
use lib.ListN.{get_elem?}
use Rattle.pt_model.specs.declared.position.Position.{Position}
use Rattle.pt_model.specs.Layout.{Layout}
use Rattle.pt_model.specs.Words.{frame_address, frame_limit, frame_named, placed_at, placed_word}
use Rattle.pt_format.specs.Words.{IsTableAddress}
use Rattle.pt_format.specs.Laws.{IsLayout, WordsDiffer}
use Rattle.pt_format.specs.Manual.{StepsAgree}
use Rattle.pt_view.specs.declared.view.View.{View}
use Rattle.pt_view.specs.declared.view.Node.{Node}
use Rattle.pt_view.specs.declared.view.Piece.{Piece}
use Rattle.pt_view.specs.Pieces.{word_of}
use Rattle.pt_view.specs.Calls.{MayPut}
use Rattle.pt_rule.specs.Lawful.{Lawful}
use Rattle.pt_rule.specs.Kinds.{retrace}
use Rattle.pt_rule.proofs.CallsWritten as writing
use Rattle.pt_rule.proofs.CutPaths as fronts
use Rattle.pt_rule.proofs.TotalsKept as totals
use Rattle.pt_rule.proofs.TreeFacts as tree

pub front_lawful : {f : Layout} {n l : ℕ} {words : List ℕ} {views : List View} (id : ℕ) (v : View) (path rest : List Node) → Lawful f n l words views →
    get_elem? views id ≡ some v → 0 < v.count → v.path ≡ path ++ rest → Lawful f n l words (set views id (retrace path v))
front_lawful {f} {n} {l} {words} {views} id v path rest r at live is = fronts.cuts f n l words views id v path rest r at live is

pub stands_inside : (views : List View) (id : ℕ) (v : View) → get_elem? views id ≡ some v → id < length views
stands_inside views id v at = totals.at_inside views id v at

pub placed_back : (p : Position) → p.level < 8 → placed_at (placed_word p) ≡ p
placed_back = tree.placed_back

pub frame_back : (f : Layout) (frame : ℕ) → frame_named f (frame_address f frame) ≡ frame
frame_back = tree.frame_back

pub frame_is_address : (f : Layout) (frame : ℕ) → frame < frame_limit f → IsTableAddress f (frame_address f frame)
frame_is_address = tree.is_address

-- the entry and the word tell the piece that may be put there
pub one_put : (f : Layout) → IsLayout f → WordsDiffer f → StepsAgree f → (v : View) (number : ℕ) (x y : Piece) → MayPut f v number x → MayPut f v number y →
    word_of f x ≡ word_of f y → x ≡ y
one_put f good d a v number x y may_x may_y word = writing.one_put f good d a v number x y may_x may_y word

-- What is proved of the rule.
use Rattle.std.specs.Prelude.{◌≡◌, ◌≢◌, ◌⊎◌, ℕ, ◌+◌, ◌<◌, ◌≤◌, IsTrue, List, [], ◌∷◌, ◌++◌, slice_set}
use mathlib.Core.Option.{some}
use lib.ListN.{get_elem?}
use Rattle.pt_model.specs.declared.block.Block.{Block}
use Rattle.pt_model.specs.Layout.{Layout, input_pages}
use Rattle.pt_model.specs.Book.{IsLawful}
use Rattle.pt_model.specs.Tables.{end_of_table, is_spine}
use Rattle.pt_model.specs.Words.{frame_limit, tag}
use Rattle.pt_format.specs.Laws.{IsLayout, WordsDiffer}
use Rattle.pt_format.specs.Manual.{StepsAgree}
use Rattle.pt_view.specs.declared.view.View.{View}
use Rattle.pt_view.specs.declared.view.Node.{Node}
use Rattle.pt_model.specs.declared.position.Position.{Position}
use Rattle.pt_model.specs.Sets.{IsAmong}
use Rattle.pt_view.specs.Lists.{IsIn}
use Rattle.pt_view.specs.Views.{IsAtRest, SameBook, SamePurse, SameRange, book_of, linked_of, spent}
use Rattle.pt_view.specs.Calls.{held_count, meets_span, HasEveryFrame}
use Rattle.pt_rule.specs.Linked.{is_in_tree}
use Rattle.pt_rule.specs.Lawful.{Lawful}
use Rattle.pt_rule.specs.Kinds.{Kind, Keeps, KeepsCut, retrace}
use Rattle.pt_rule.specs.Opening.{opening_view, IsNew}
use Rattle.pt_rule.specs.Cuts.{MayJoin, MaySplit, joined, left_part, right_part}
use Rattle.pt_rule.specs.Holds.{Holds}

-- a new space is lawful, with its one view
abbrev pub NewIsLawful : Type 0
NewIsLawful =
    (f : Layout) (n l hold : ℕ) (words : List ℕ) → IsLayout f → n ≤ frame_limit f → hold < n → f.start ≤ l → l ≤ f.levels →
    IsNew f n l hold words → Lawful f n l words (opening_view f n l hold ∷ [])

-- each kind of step keeps the rule, and the number that it finds tells what the kind says
abbrev pub StepsKeep : Type 0
StepsKeep = (f : Layout) → IsLayout f → WordsDiffer f → StepsAgree f → (n l : ℕ) (k : Kind) → Keeps f n l k

-- a law holds too for a holder that has only the front of its seat's path
abbrev pub FrontsKeep : Type 0
FrontsKeep = (f : Layout) (n l : ℕ) (k : Kind) → Keeps f n l k → KeepsCut f n l k

-- what a view may note: w is v but for the last tables of its path, which it leaves, the frames that it says to have found
-- busy and the positions that it says to have found linked, all of which are, and its histories, which may be any
pub record MayNote (f : Layout) (n l : ℕ) (words : List ℕ) (views : List View) (v w : View) : Type 0 where
  pub range : SameRange v w
  pub book : SameBook v w
  pub purse : SamePurse v w
  pub prepared : w.prepared ≡ v.prepared
  pub rest : List Node
  pub path : v.path ≡ w.path ++ rest
  pub busy : w.count ≡ input_pages f → (frame : ℕ) → frame < n → IsIn w.busy frame → tag words frame ≢ 0
  pub known : (p : Position) → IsAmong w.known p →
      IsTrue (is_in_tree l words views p) × (IsTrue (is_spine w.levels p) ⊎ IsTrue (meets_span w p.base (end_of_table f p)))

-- the rule holds too with what a view may note
abbrev pub ViewsNote : Type 0
ViewsNote =
    (f : Layout) (n l : ℕ) (words : List ℕ) (views : List View) (id : ℕ) (v w : View) → Lawful f n l words views →
    get_elem? views id ≡ some v →
    0 < v.count → MayNote f n l words views v w → Lawful f n l words (slice_set views id w)

-- a view whose span is the whole space is the only live one, and the rule holds with it alone
abbrev pub WholeIsAlone : Type 0
WholeIsAlone =
    (f : Layout) (n l : ℕ) (words : List ℕ) (views : List View) (id : ℕ) (v : View) → Lawful f n l words views →
    get_elem? views id ≡ some v →
    v.count ≡ input_pages f →
    Lawful f n l words (v ∷ []) × ((j : ℕ) (u : View) → get_elem? views j ≡ some u → 0 < u.count → j ≡ id)

-- where a view spans the whole space, the linked positions, its purse and its prepared frame take no more than
-- the frames, and all of them where every frame is on its busy list
abbrev pub WholeIsCounted : Type 0
WholeIsCounted =
    (f : Layout) → IsLayout f → (n l : ℕ) (words : List ℕ) (views : List View) (id : ℕ) (v : View) → Lawful f n l words views →
    get_elem? views id ≡ some v →
    v.count ≡ input_pages f →
    (linked_of v + held_count v ≤ n) × (HasEveryFrame v → linked_of v + held_count v ≡ n)

-- the book of a live view at rest is lawful
abbrev pub BooksAreLawful : Type 0
BooksAreLawful =
    (f : Layout) → IsLayout f → (n l : ℕ) (words : List ℕ) (views : List View) (id : ℕ) (v : View) → Lawful f n l words views →
    get_elem? views id ≡ some v →
    0 < v.count → (blocks : List Block) → IsAtRest f v blocks → IsLawful f v.levels (book_of v blocks)

-- where a view is cut in two at a page on which no block lies across, both parts have its place; where two views side
-- by side become one, the other's place has the spent view
abbrev pub SplitsKeep : Type 0
SplitsKeep =
    (f : Layout) → IsLayout f → (n l : ℕ) (words : List ℕ) (views : List View) (id : ℕ) (v : View) (at kept : ℕ) →
    Lawful f n l words views → get_elem? views id ≡ some v →
    0 < v.count → MaySplit f at kept (retrace [] v) →
    Lawful f n l words (slice_set views id (left_part f at kept (retrace [] v)) ++ right_part f at kept (retrace [] v) ∷ [])

abbrev pub JoinsKeep : Type 0
JoinsKeep =
    (f : Layout) → IsLayout f → (n l : ℕ) (words : List ℕ) (views : List View) (id other : ℕ) (v w : View) → Lawful f n l words views →
    get_elem? views id ≡ some v →
    ¬ (other ≡ id) → get_elem? views other ≡ some w → 0 < v.count → 0 < w.count → MayJoin f (retrace [] v) (retrace [] w) →
    Lawful f n l words (slice_set (slice_set views id (joined (retrace [] v) (retrace [] w))) other spent)

-- what holds of each live view
abbrev pub ViewsHold : Type 0
ViewsHold =
    (f : Layout) → IsLayout f → (n l : ℕ) (words : List ℕ) (views : List View) (id : ℕ) (v : View) → Lawful f n l words views →
    get_elem? views id ≡ some v →
    0 < v.count → Holds f n l v

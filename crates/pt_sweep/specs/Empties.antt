-- What the unlinking of the tables in a range of pages that no block meets does.
use Rattle.std.specs.Prelude.{◌≡◌, ℕ, ◌+◌, ◌≤◌, nat_lt, ◌&&◌, Bool, false, not, filter, List, ◌++◌, length}
use Rattle.pt_model.specs.declared.position.Position.{Position}
use Rattle.pt_model.specs.Layout.{Layout}
use Rattle.pt_model.specs.Sets.{IsAmong}
use Rattle.pt_model.specs.Book.{table_lies_in}
use Rattle.pt_view.specs.declared.view.View.{View}
use Rattle.pt_view.specs.Lists.{SameFrames}
use Rattle.pt_view.specs.Views.{SameRange}
use Rattle.pt_view.specs.Loads.{AddsAbsences}

-- whether a table lies in a range, and is below a level
abbrev pub lies_below : Layout → (first end level : ℕ) → Position → Bool
lies_below f first end level q = nat_lt q.level level && table_lies_in f first end q

-- a frame came to the purse for each table that the book lost, and over a lone holder no other
pub record Frees (alone : Type 0) (v w : View) : Type 0 where
  pub each : length v.purse + length v.tables ≤ length w.purse + length w.tables
  pub only : alone → length w.purse + length w.tables ≡ length v.purse + length v.tables

-- the book loses the tables that pass a test, the purse gets frames in front, one for each table that the book loses; the positions known to be linked that don't pass stay known, and nothing else of the view changes
pub record Unlinks (f : Layout) (tells alone : Type 0) (passes : Position → Bool) (v w : View) : Type 0 where
  pub range : SameRange v w
  pub pieces : w.pieces ≡ v.pieces
  pub top : w.top ≡ v.top
  pub tables : w.tables ≡ filter (λ q. not (passes q)) v.tables
  pub path : w.path ≡ v.path
  pub prepared : w.prepared ≡ v.prepared
  pub end : w.end ≡ v.end
  pub busy : SameFrames v.busy w.busy
  pub known : (q : Position) → IsAmong v.known q → passes q ≡ false → IsAmong w.known q
  pub purse : (frames : List ℕ) × (w.purse ≡ frames ++ v.purse)
  pub frees : Frees alone v w
  pub taken : tells → w.taken ≡ v.taken
  pub stores : tells → w.stores ≡ v.stores
  pub absent : tells → AddsAbsences v w

-- of the tables that lie in a range, those below a level, and all
abbrev pub UnlinksBelow : Layout → (tells alone : Type 0) → (first end level : ℕ) → (v w : View) → Type 0
UnlinksBelow f tells alone first end level v w = Unlinks f tells alone (lies_below f first end level) v w

abbrev pub UnlinksIn : Layout → (tells alone : Type 0) → (first count : ℕ) → (v w : View) → Type 0
UnlinksIn f tells alone first count v w = Unlinks f tells alone (table_lies_in f first (first + count)) v w

-- Runs of entries: those that are looked at, and those that are cleared.
use Rattle.std.specs.Prelude.{◌≡◌, ℕ, zero, suc, ◌+◌, ◌<◌, ◌==◌, ◌&&◌, Bool, true, length, filter, map, List, [], ◌∷◌, ◌++◌, IsTrue}
use Rattle.pt_model.specs.Layout.{Layout}
use Rattle.pt_model.specs.declared.position.Position.{Position}
use Rattle.pt_model.specs.Sets.{SamePositions}
use Rattle.pt_view.specs.declared.view.View.{View}
use Rattle.pt_view.specs.declared.view.Piece.{Piece}
use Rattle.pt_view.specs.declared.view.Change.TheVariants.{Cleared}
use Rattle.pt_view.specs.Lists.{SameFrames}
use Rattle.pt_view.specs.Views.{SamePurse, SameRange}
use Rattle.pt_view.specs.Calls.{IsEntryAt, IsVacant, entry_end, entry_first, is_in_span, meets_span, pieces_at}
use Rattle.pt_view.specs.Loads.{ByLoads}

-- entries that may be looked at in a row: of the path's last table, from a number on; the pages under each meet the span
pub record MeetsRun (f : Layout) (v : View) (first count : ℕ) : Type 0 where
  pub some : 0 < count
  pub position : Position
  pub entry : (i : ℕ) → i < count → IsEntryAt f v position (first + i)
  pub meets : (i : ℕ) → i < count → IsTrue (meets_span v (entry_first f position (first + i)) (entry_end f position (first + i)))

-- so many entries are looked at: where all are found empty, nothing stands under them
pub record LooksAtRun (f : Layout) (tells : Type 0) (first count : ℕ) (v : View) (empty : Bool) (w : View) : Type 0 where
  pub loads : ByLoads tells v w
  pub path : w.path ≡ v.path
  pub vacant : IsTrue empty → (p : Position) → IsEntryAt f v p first → (i : ℕ) → i < count → IsVacant f v p (first + i)

-- entries that may be cleared in a row: of the path's last table, which is of level 0, from a number on; each is in the span
pub record MayClearRun (f : Layout) (v : View) (first count : ℕ) : Type 0 where
  pub some : 0 < count
  pub position : Position
  pub low : position.level ≡ 0
  pub entry : (i : ℕ) → i < count → IsEntryAt f v position (first + i)
  pub inside : (i : ℕ) → i < count → IsTrue (is_in_span v (entry_first f position (first + i)) (entry_end f position (first + i)))

-- whether a piece stands at none of so many entries of a table, from a number on
abbrev pub stands_outside : Layout → Position → (first count : ℕ) → Piece → Bool
stands_outside f p first zero x = true
stands_outside f p first (suc count) x = stands_outside f p first count x && (pieces_at f p (first + count) (x ∷ []) == 0)

-- the pieces of a list that stand at none of them
abbrev pub drop_run : Layout → Position → (first count : ℕ) → List Piece → List Piece
drop_run f p first count xs = filter (stands_outside f p first count) xs

-- the pieces of a list that stand at an entry
abbrev pub keep_at : Layout → Position → (number : ℕ) → List Piece → List Piece
keep_at f p number xs = filter (λ x. pieces_at f p number (x ∷ []) == 1) xs

-- those that stand at so many entries, in the order of entries
abbrev pub keep_run : Layout → Position → (first count : ℕ) → List Piece → List Piece
keep_run f p first zero xs = []
keep_run f p first (suc count) xs = keep_run f p first count xs ++ keep_at f p (first + count) xs

-- the pieces at the entries leave the pieces, so many are cleared, and the tables and the top stay
pub record IsClearedRun (f : Layout) (tells : Type 0) (first count : ℕ) (v : View) (cleared : ℕ) (w : View) : Type 0 where
  pub range : SameRange v w
  pub purse : SamePurse v w
  pub path : w.path ≡ v.path
  pub prepared : w.prepared ≡ v.prepared
  pub busy : SameFrames v.busy w.busy
  pub known : SamePositions v.known w.known
  pub tables : w.tables ≡ v.tables
  pub top : w.top ≡ v.top
  pub pieces : (p : Position) → IsEntryAt f v p first → w.pieces ≡ drop_run f p first count v.pieces
  pub number : (p : Position) → IsEntryAt f v p first → cleared ≡ length (keep_run f p first count v.pieces)
  pub stores : tells → (p : Position) → IsEntryAt f v p first → w.stores ≡ v.stores ++ map Cleared (keep_run f p first count v.pieces)
  pub told : tells → (w.taken ≡ v.taken) × (w.absent ≡ v.absent)

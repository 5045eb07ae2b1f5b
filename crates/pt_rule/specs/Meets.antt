-- The law of calls: a step of each kind, where the number that it finds tells what its kind says, is what a holder's
-- call says of the view before and after it. It says it in full: of a holder that tells its histories, and is alone
-- where its span is the whole space. A holder that tells less has it all the more.
use Rattle.std.specs.Prelude.{◌≡◌, ◌≢◌, ℕ, ◌%◌, ◌≤◌, ◌==◌, List, [], ◌∷◌, ◌++◌}
use Rattle.pt_model.specs.declared.block.Prot.{Prot}
use Rattle.pt_model.specs.declared.position.Position.{Position}
use Rattle.pt_model.specs.Layout.{Layout, input_pages}
use Rattle.pt_model.specs.Tables.{child_at}
use Rattle.pt_model.specs.Words.{frame_address, frame_limit, frame_named, root_word}
use Rattle.pt_format.specs.Words.{IsLeaf, IsPointer, IsWritten as IsWrittenWord}
use Rattle.pt_format.specs.Laws.{IsLayout, WordsDiffer}
use Rattle.pt_format.specs.Manual.{StepsAgree}
use Rattle.pt_view.specs.declared.view.View.{View}
use Rattle.pt_view.specs.declared.holder.Seen.TheVariants.{Empty, Leaf, Entered}
use Rattle.pt_view.specs.declared.holder.Won.TheVariants.{Yes, Met}
use Rattle.pt_view.specs.Pieces.{word_of}
use Rattle.pt_view.specs.Calls.{InstallFinds, IsCleared, IsEntryAt, IsFreed, IsGrown, IsInstalled, IsPlaced, IsReleased, IsTaken, IsUnlinked, IsUnplaced, IsWritten, MayGrow, MayUnlink, Rooted, Went}
use Rattle.pt_rule.specs.Kinds.{IsLowestIn, Kind, May, Tells, after, frame_of, bridge, clear, free, install, load_root, look, look_tag, place, raise, take, unbridge, unlink, unplace, write}

abbrev pub Always : Type 0
Always = Unit {0}

-- the span is the whole space, so that no other live view exists
abbrev pub IsWhole : Layout → View → Type 0
IsWhole f v = v.count ≡ input_pages f

-- the path of w is that of v and one node more: the child at an entry, in this frame
abbrev pub GoesInto : Layout → Position → (number frame : ℕ) → (v w : View) → Type 0
GoesInto f p number frame v w = w.path ≡ v.path ++ record { frame = frame; position = child_at f p number } ∷ []

-- A load of an entry is `enter`, by what the number found reads as.
pub record Enters (f : Layout) (p : Position) (number : ℕ) (v : View) (found : ℕ) (w : View) : Type 0 where
  pub zero : found ≡ 0 → Went f Always (IsWhole f v) number v Empty w
  pub some : found ≢ 0 → IsWrittenWord f p.level found
  pub leaf : (log2 : ℕ) (prot : Prot) → IsLeaf f p.level found log2 prot → Went f Always (IsWhole f v) number v (Leaf found) w
  pub pointer : (address : ℕ) → IsPointer f p.level found address →
      Went f Always (IsWhole f v) number v Entered w × GoesInto f p number (frame_named f address) v w

-- An exchange of an entry is `install`: it is won where it found zero.
pub record Installs (f : Layout) (p : Position) (number : ℕ) (v : View) (found : ℕ) (w : View) : Type 0 where
  pub won : found ≡ 0 → IsInstalled f Always number v Yes w × GoesInto f p number (frame_of v.prepared) v w
  pub vacant : found ≡ 0 → InstallFinds f (IsWhole f v) number v Yes
  pub met : found ≢ 0 → IsInstalled f Always number v Met w
  pub known : found ≢ 0 → InstallFinds f (IsWhole f v) number v Met
  pub some : found ≢ 0 → (address : ℕ) × IsPointer f p.level found address
  pub pointer : (address : ℕ) → IsPointer f p.level found address → GoesInto f p number (frame_named f address) v w

-- what the call that makes a step of this kind says of the view before it and the view after it
abbrev pub Says : Layout → Kind → (v : View) → (found : ℕ) → (w : View) → Type 0
Says f load_root v found w = Rooted f Always (IsWhole f v) v (found % 8) w
Says f (look frame number) v found w = (p : Position) → IsEntryAt f v p number → Enters f p number v found w
Says f (place frame p) v found w = IsPlaced Always v p w
Says f (unplace frame) v found w = IsUnplaced Always v w
Says f (install frame number) v found w = (p : Position) → IsEntryAt f v p number → Installs f p number v found w
Says f (write frame number x) v found w = IsWritten f Always number (word_of f x) v w
Says f (clear frame number x) v found w = IsCleared f Always number v w
Says f (take frame) v found w = IsTaken Always frame v (found == 0) w
Says f (free frame) v found w = IsFreed Always (frame ∷ []) v w
Says f _ v found w = Unit {0}

abbrev pub StepsMeet : Type 0
StepsMeet =
    (f : Layout) → IsLayout f → WordsDiffer f → StepsAgree f → (n : ℕ) → n ≤ frame_limit f →
    (v : View) (k : Kind) (found : ℕ) → May f n k v → Tells f n k v found → Says f k v found (after f k found v)

-- `unlink` is three steps: a load of the entry finds the pointer to the child, a store of zero leaves the child and
-- prepares it, and a store of the child's tag makes it the first of the purse.
abbrev pub in_child : Layout → (frame number found : ℕ) → View → View
in_child f frame number found v = after f (look frame number) found v

abbrev pub out_of_child : Layout → (frame number found zeroed : ℕ) → View → View
out_of_child f frame number found zeroed v = after f (unlink frame number) zeroed (in_child f frame number found v)

pub record Unlinks (f : Layout) (n : ℕ) (v : View) (frame number found : ℕ) : Type 0 where
  pub child : ℕ
  pub pointer : (p : Position) → IsEntryAt f v p number → IsPointer f p.level found (frame_address f child)
  pub may_unlink : May f n (unlink frame number) (in_child f frame number found v)
  pub may_unplace : (zeroed : ℕ) → May f n (unplace child) (out_of_child f frame number found zeroed v)
  pub unlinked : (zeroed last : ℕ) →
      IsUnlinked f Always number v (after f (unplace child) last (out_of_child f frame number found zeroed v))

abbrev pub UnlinkMeets : Type 0
UnlinkMeets =
    (f : Layout) → IsLayout f → WordsDiffer f → StepsAgree f → (n : ℕ) → n ≤ frame_limit f →
    (v : View) (frame number : ℕ) → IsLowestIn v frame → MayUnlink f v number →
    May f n (look frame number) v × ((found : ℕ) → Tells f n (look frame number) v found → Unlinks f n v frame number found)

-- `grow` is a store of the bridge and an exchange of the root, and where that was lost a store of zero over the bridge.
abbrev pub with_bridge : Layout → (v : View) → MayGrow v → (old : ℕ) → View
with_bridge f v may old = after f (bridge may.frame may.root may.level) old v

abbrev pub with_raise : Layout → (v : View) → MayGrow v → (old found : ℕ) → View
with_raise f v may old found = after f (raise may.frame may.root may.level) found (with_bridge f v may old)

pub record Grows (f : Layout) (n : ℕ) (v : View) (may : MayGrow v) (old : ℕ) : Type 0 where
  pub may_raise : May f n (raise may.frame may.root may.level) (with_bridge f v may old)
  pub won : (found : ℕ) → Tells f n (raise may.frame may.root may.level) (with_bridge f v may old) found →
      found ≡ root_word may.root may.level → IsGrown f Always (IsWhole f v) v Yes (with_raise f v may old found)
  pub may_unbridge : (found : ℕ) → found ≢ root_word may.root may.level →
      May f n (unbridge may.frame may.level) (with_raise f v may old found)
  pub lost : (found last : ℕ) → Tells f n (raise may.frame may.root may.level) (with_bridge f v may old) found →
      found ≢ root_word may.root may.level →
      IsGrown f Always (IsWhole f v) v Met (after f (unbridge may.frame may.level) last (with_raise f v may old found))

abbrev pub GrowMeets : Type 0
GrowMeets =
    (f : Layout) (n : ℕ) (v : View) (may : MayGrow v) →
    May f n (bridge may.frame may.root may.level) v × ((old : ℕ) → Grows f n v may old)

-- `release` is, for each frame of the purse, a load of its tag and a store that frees it.
abbrev pub Releases : Layout → (n : ℕ) → (old : View) → (frames : List ℕ) → (v : View) → Type 0
Releases f n old [] v = IsReleased Always old v
Releases f n old (frame ∷ frames) v =
    May f n (look_tag frame) v × May f n (free frame) v × ((found : ℕ) → Releases f n old frames (after f (free frame) found v))

abbrev pub ReleaseMeets : Type 0
ReleaseMeets = (f : Layout) (n : ℕ) (v : View) → Releases f n v v.purse v

-- What a map of a range answers, and what it does to a view.
use Rattle.std.specs.Prelude.{◌≡◌, ◌⊎◌, ℕ, ◌+◌, ◌-◌, ◌/◌, ◌^◌, ◌<◌, ◌≤◌, not, nat_lt, false, List, ◌++◌, length, filter, map, min, Option, Some, None, Result, Ok, Err}
use Rattle.std.specs.List.{list_any}
use Rattle.pt_model.specs.declared.block.Block.{Block}
use Rattle.pt_model.specs.declared.block.Prot.{Prot}
use Rattle.pt_model.specs.declared.position.Position.{Position}
use Rattle.pt_model.specs.Layout.{Layout, end_of}
use Rattle.pt_model.specs.Book.{Book, MapRefusal, Misaligned, OutsideLease, OutputRange, Occupied, mapped, missing, table_lies_in}
use Rattle.pt_model.specs.Pages.{page_under}
use Rattle.pt_model.specs.Sets.{IsAmong, places}
use Rattle.pt_tile.specs.declared.extent.Extent.{Extent}
use Rattle.pt_tile.specs.Extents.{tiles}
use Rattle.pt_view.specs.declared.view.View.{View}
use Rattle.pt_view.specs.declared.view.Absence.{Absence}
use Rattle.pt_view.specs.declared.view.Change.TheVariants.{Written}
use Rattle.pt_view.specs.Lists.{IsIn}
use Rattle.pt_view.specs.Pieces.{all_pieces}
use Rattle.pt_view.specs.Views.{Aside, IsAtRest, SameRange, SameBook, book_of, linked_count}
use Rattle.pt_view.specs.Loads.{AddsAbsences}
use Rattle.pt_map.specs.declared.refused.MapRefused.{MapRefused}
use Rattle.pt_map.specs.declared.refused.MapRefused.TheVariants as refused
use Rattle.pt_map.specs.Absent.{is_shown}
use Rattle.pt_map.specs.Replaced.{is_replaced, replaced}

-- the refusal of the book machine that an answer is; it has none for want of frames
abbrev pub refusal_of : MapRefused → Option MapRefusal
refusal_of refused.Misaligned = Some Misaligned
refusal_of refused.OutsideLease = Some OutsideLease
refusal_of refused.OutputRange = Some OutputRange
refusal_of (refused.Occupied address) = Some (Occupied address)
refusal_of (refused.NoFrames absent held) = None

-- a request: the extent of `len` bytes from input address `va` onto those from output address `pa`
abbrev pub extent_at : Layout → (va pa len : ℕ) → Prot → Extent
extent_at f va pa len prot = record {
  first = page_under f va;
  end = page_under f va + len / 2 ^ f.granule;
  out = pa / 2 ^ f.granule;
  prot = prot;
}

-- the book after an extent is mapped
abbrev pub book_with : Layout → View → List Block → Extent → Book
book_with f v blocks x = mapped f v.levels (book_of v blocks) x.first (x.end - x.first) x.out x.prot

-- the positions that it needs and that the book doesn't have, and those of them that the view doesn't know either
abbrev pub lacking : Layout → View → List Block → Extent → List Position
lacking f v blocks x = missing f v.levels (book_of v blocks) x.first (x.end - x.first) x.out x.prot

abbrev pub unknown : Layout → View → List Block → Extent → List Position
unknown f v blocks x = filter (λ p. not (nat_lt 0 (places p v.known))) (lacking f v blocks x)

-- So many needed tables were found absent: at most one more than the frames, none of them known or of the book, and
-- where it is told what loads showed, each shown absent by a load of this call.
pub record FindsAbsent (f : Layout) (tells : Type 0) (v w : View) (blocks : List Block) (x : Extent) (absent : ℕ) : Type 0 where
  pub capped : absent ≤ v.frames + 1
  pub few : absent ≤ length (unknown f v blocks x)
  pub shown : tells → (facts : List Absence) × (w.absent ≡ v.absent ++ facts) × (absent ≤ length (filter (is_shown f facts) (unknown f v blocks x)))

-- the tables of the book that lie in a block of an extent's tiling, which the book machine takes away
abbrev pub covered : Layout → View → Extent → List Position
covered f v x = filter (λ p. list_any (λ b. table_lies_in f b.first (end_of b) p) (tiles f x)) v.tables

-- The frames of a map: those that it drew, no more than the purse lacked for the absent tables, are in front of the old
-- purse, and before them those of the tables that its blocks take the place of, one for each; those that it linked are gone from the
-- front, no more than were absent, and each of these is for a position that the book lacked and the view didn't know.
pub record Frames (f : Layout) (tells : Type 0) (v w : View) (blocks : List Block) (x : Extent) : Type 0 where
  pub absent : ℕ
  pub found : FindsAbsent f tells v w blocks x absent
  pub freed : List ℕ
  pub drawn : List ℕ
  pub linked : List ℕ
  pub purse : freed ++ (drawn ++ v.purse) ≡ linked ++ w.purse
  pub back : length (covered f v x) ≤ length freed
  pub few : length linked ≤ length (unknown f v blocks x)
  pub within : length linked ≤ absent
  pub spared : length drawn ≤ absent - length v.purse

-- what was met comes after what was met before: what loads showed to be absent, and the frames found not free
abbrev pub AddsToHistory : (v w : View) → Type 0
AddsToHistory v w = AddsAbsences v w × (lost : List ℕ) × (w.taken ≡ v.taken ++ lost)

-- an extent was mapped: the holder is at rest with the book after it
pub record IsMapped (f : Layout) (tells : Type 0) (v w : View) (blocks : List Block) (x : Extent) : Type 0 where
  pub range : SameRange v w
  pub rest : IsAtRest f w (book_with f v blocks x).blocks
  pub tables : w.tables ≡ (book_with f v blocks x).tables
  pub top : w.top ≡ (book_with f v blocks x).top
  pub frames : Frames f tells v w blocks x
  pub known : (p : Position) → IsAmong v.known p → is_replaced f (tiles f x) p ≡ false → IsAmong w.known p
  pub busy : (frame : ℕ) → IsIn v.busy frame → IsIn w.busy frame
  pub grew : tells → AddsToHistory v w
  pub stores : tells → w.stores ≡ v.stores ++ map Written (all_pieces f (tiles f x))

-- after every refusal: the book stays, and the purse loses none
pub record IsRefused (f : Layout) (tells : Type 0) (v w : View) : Type 0 where
  pub range : SameRange v w
  pub book : SameBook v w
  pub path : w.path ≡ v.path
  pub prepared : w.prepared ≡ v.prepared
  pub end : w.end ≡ v.end
  pub purse : (drawn : List ℕ) × (w.purse ≡ drawn ++ v.purse)
  pub known : (p : Position) → IsAmong v.known p → IsAmong w.known p
  pub busy : (frame : ℕ) → IsIn v.busy frame → IsIn w.busy frame
  pub grew : tells → AddsToHistory v w
  pub stores : tells → w.stores ≡ v.stores

-- before it looks for frames, a refusal leaves the purse
abbrev pub KeepsPurse : (v w : View) → MapRefused → Type 0
KeepsPurse v w (refused.NoFrames absent held) = Unit {0}
KeepsPurse v w _ = w.purse ≡ v.purse

-- each frame was in the purse at the start, or was drawn, or was found not free
pub record FindsEach (v w : View) : Type 0 where
  pub drawn : List ℕ
  pub lost : List ℕ
  pub purse : w.purse ≡ drawn ++ v.purse
  pub taken : w.taken ≡ v.taken ++ lost
  pub each : (frame : ℕ) → frame < v.frames → IsIn v.purse frame ⊎ (IsIn drawn frame ⊎ IsIn lost frame)

-- Want of frames: more needed tables are absent than the purse has frames. Where all frames are too few for these,
-- nothing was drawn; else, where it is told which frames were found not free, each frame was tried.
pub record WantsFrames (f : Layout) (tells : Type 0) (v w : View) (blocks : List Block) (x : Extent) (absent held : ℕ) : Type 0 where
  pub more : held < absent
  pub held_is : held ≡ length w.purse
  pub found : FindsAbsent f tells v w blocks x absent
  pub idle : v.frames < absent → w.purse ≡ v.purse
  pub tried : tells → (v.frames < absent) ⊎ FindsEach v w

abbrev pub IsWanting : Layout → (tells : Type 0) → (v w : View) → List Block → Extent → MapRefused → Type 0
IsWanting f tells v w blocks x (refused.NoFrames absent held) = WantsFrames f tells v w blocks x absent held
IsWanting f tells v w blocks x _ = Unit {0}

-- at Ok the book machine accepts, and the extent was mapped
pub record Maps (f : Layout) (tells : Type 0) (v w : View) (refusal : Book → Option MapRefusal) (x : Extent) : Type 0 where
  pub range : SameRange v w
  pub accepted : (blocks : List Block) → IsAtRest f v blocks → refusal (book_of v blocks) ≡ None
  pub mapped : (blocks : List Block) → IsAtRest f v blocks → IsMapped f tells v w blocks x

-- a refusal is the book machine's or want of frames with its cause, and the book stays
pub record Refuses (f : Layout) (tells : Type 0) (v w : View) (refusal : Book → Option MapRefusal) (x : Extent) (e : MapRefused) : Type 0 where
  pub stays : IsRefused f tells v w
  pub purse : KeepsPurse v w e
  pub refused : (blocks : List Block) → IsAtRest f v blocks → refusal (book_of v blocks) ≡ refusal_of e
  pub wants : (blocks : List Block) → IsAtRest f v blocks → IsWanting f tells v w blocks x e

-- what the map of an extent answers, where this is the refusal of the book machine
abbrev pub Answers : Layout → (tells : Type 0) → (v w : View) → (Book → Option MapRefusal) → Extent → Result (Unit {0}) MapRefused → Type 0
Answers f tells v w refusal x (Ok done) = Maps f tells v w refusal x
Answers f tells v w refusal x (Err e) = Refuses f tells v w refusal x e

-- want of frames comes exactly where the linked and the lacking positions together are more than the frames, and is of the
-- lacking ones, up to one more than the frames
abbrev pub IsShortOf : Layout → View → (linked : ℕ) → List Block → Extent → MapRefused → Type 0
IsShortOf f v linked blocks x (refused.NoFrames absent held) =
    (v.frames < linked + length (lacking f v blocks x)) × (absent ≡ min (v.frames + 1) (length (lacking f v blocks x)))
IsShortOf f v linked blocks x _ = Unit {0}

-- There are frames for the linked and the lacking positions. These are linked after, the tables that blocks take the place
-- of aren't, and no frame is lost.
pub record LinksAll (f : Layout) (v w : View) (aside : Aside) (blocks : List Block) (x : Extent) : Type 0 where
  pub enough : linked_count v aside + length (lacking f v blocks x) ≤ v.frames
  pub linked : linked_count w aside + length (replaced f v (tiles f x)) ≡ linked_count v aside + length (lacking f v blocks x)
  pub none_lost : length v.purse + length (replaced f v (tiles f x)) ≤ length w.purse + length (lacking f v blocks x)

-- the account of frames over a lone holder, which has set this aside
abbrev pub Accounts : Layout → (v w : View) → Aside → Extent → Result (Unit {0}) MapRefused → Type 0
Accounts f v w aside x (Ok done) = (blocks : List Block) → IsAtRest f v blocks → LinksAll f v w aside blocks x
Accounts f v w aside x (Err e) =
    (linked_count w aside ≡ linked_count v aside) × ((blocks : List Block) → IsAtRest f v blocks → IsShortOf f v (linked_count v aside) blocks x e)

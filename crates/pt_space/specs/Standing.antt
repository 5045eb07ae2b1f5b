-- What contracts see of a space, a pass and a lease, and when a step may be made.
use Rattle.std.specs.Prelude.{◌≡◌, ℕ, ◌+◌, ◌<◌, ◌≤◌, List, [], ◌++◌, length, take, Option, None, Some, slice_index}
use mathlib.Core.Option.{some}
use lib.ListN.{get_elem?}
use Rattle.atomic_table.specs.Seated.{TableId}
use Rattle.pt_model.specs.Layout.{Layout}
use Rattle.pt_model.specs.Words.{entry_place, frame_limit, word_count}
use Rattle.pt_view.specs.declared.view.View.{View}
use Rattle.pt_view.specs.declared.view.Node.{Node}
use Rattle.pt_view.specs.declared.view.Piece.{Piece}
use Rattle.pt_view.specs.declared.view.Prepared.{Prepared}
use Rattle.pt_view.specs.Views.{Aside, Stays}
use Rattle.pt_rule.specs.Holds.{Holds}
use Rattle.pt_rule.specs.Meets.{IsWhole}
use Rattle.pt_rule.specs.Tags.{first_or}
use Rattle.pt_rule.specs.Kinds.{IsLowestIn, Kind, May, Tells, after, place_of, put, retrace}
use Rattle.pt_rule.specs.WholeView.{prepared_frame}

-- which space
pub record SpaceId : Type 0 where
  pub table : TableId
  pub frames : ℕ
  pub levels : ℕ

-- which space, and the view
pub record Standing : Type 0 where
  pub space : SpaceId
  pub view : View

-- the fields of a space are those that its table was told
pub record IsSpaceOf (f : Layout) (t : TableId) (n l frames levels : ℕ) : Type 0 where
  pub frames_are : n ≡ frames
  pub levels_are : l ≡ levels
  pub words_are : t.words ≡ word_count f n
  pub no_slots : t.slots ≡ 0
  pub some : 1 ≤ n
  pub few : n ≤ frame_limit f
  pub low : f.start ≤ l
  pub high : l ≤ f.levels

-- the seat's view goes on from the holder's path
abbrev pub GoesOn : View → List Node → Type 0
GoesOn v path = (rest : List Node) × (v.path ≡ path ++ rest)

-- an entry of the path's last table, which is in this frame, stands at this word
pub record IsEntryPlace (f : Layout) (s : Standing) (frame number word : ℕ) : Type 0 where
  pub lowest : IsLowestIn s.view frame
  pub a_frame : frame < s.space.frames
  pub place : entry_place f s.space.frames frame number ≡ word

-- A step of this kind may be made at a word by a seat of a space of n frames, for a holder with this path. It puts there
-- what `puts` says of the number found.
pub record MayStep (f : Layout) (n l : ℕ) (k : Kind) (path : List Node) (v : View) (word : ℕ) (puts : ℕ → ℕ) : Type 0 where
  pub frames : v.frames ≡ n
  pub levels : v.levels ≡ l
  pub live : 0 < v.count
  pub goes_on : GoesOn v path
  pub may : May f n k (retrace path v)
  pub place : place_of f n k ≡ word
  pub within : word < word_count f n
  pub puts_is : (found : ℕ) → put f k (retrace path v) found ≡ puts found

-- what it makes of the view, and what it tells
pub record Stepped (f : Layout) (n l : ℕ) (k : Kind) (v : View) (found : ℕ) (w : View) : Type 0 where
  pub is : w ≡ after f k found v
  pub tells : Tells f n k v found
  pub holds : Holds f n l w

-- a step about some piece was made, which put this word
pub record SteppedAbout (f : Layout) (n l : ℕ) (kind : Piece → Kind) (v : View) (word : ℕ) (w : View) : Type 0 where
  pub piece : Piece
  pub found : ℕ
  pub may : May f n (kind piece) v
  pub puts : put f (kind piece) v found ≡ word
  pub stepped : Stepped f n l (kind piece) v found w

-- The fields of a lease: its span in pages, the first frame of its purse and how many it holds, the frames of its path, its
-- depth, the level of its last table, and the prepared frame.
pub record Fields : Type 0 where
  pub first : ℕ
  pub count : ℕ
  pub head : Option ℕ
  pub held : ℕ
  pub path : List ℕ
  pub depth : ℕ
  pub level : ℕ
  pub prepared : Option ℕ

-- fields show the view of a seat: the first nodes of its path, so many as the depth, are the holder's
pub record Shows (f : Layout) (n l : ℕ) (v : View) (o : Fields) : Type 0 where
  pub holds : Holds f n l v
  pub first : v.first ≡ o.first
  pub count : v.count ≡ o.count
  pub end : v.end ≡ None
  pub head : first_or None v.purse ≡ o.head
  pub held : length v.purse ≡ o.held
  pub prepared : prepared_frame v.prepared ≡ o.prepared
  pub unbridged : (x : Prepared) → v.prepared ≡ Some x → x.bridge ≡ None
  pub deep : o.depth ≤ length v.path
  pub nodes : (i : ℕ) (x : Node) → i < o.depth → get_elem? v.path i ≡ some x → (x.frame ≡ slice_index o.path i) × (x.position.level + i + 1 ≡ o.level + o.depth)

-- the view of the holder: the path is cut to its depth
abbrev pub cut_to : (depth : ℕ) → View → View
cut_to depth v = retrace (take depth v.path) v

-- what every call leaves: the space that the lease is of, and that it is alone where its span is the whole space
abbrev pub none_aside : Aside
none_aside = record { blocks = []; positions = [] }

abbrev pub StaysIn : Layout → (old new : Standing) → Type 0
StaysIn f old new = Stays (λ (s : Standing). s.space) (λ (s : Standing). none_aside) (λ (s : Standing). IsWhole f s.view) old new

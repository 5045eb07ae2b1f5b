-- The rule of the words of a space that several holders share: what holds of the words and of all views
-- between any two steps. `n` is the number of frames and `l` the number of levels that the space started
-- with. A view is live where its span isn't empty. Words are read as the root, the tags and the entries.
use Rattle.std.specs.Prelude.{◌≡◌, ◌≢◌, ◌⊎◌, ℕ, ◌+◌, ◌/◌, ◌%◌, ◌<◌, ◌≤◌, ◌^◌, nat_lt, ◌&&◌, Bool, true, false, List, [], ◌∷◌, length, Option, None, Some, IsTrue}
use Rattle.std.specs.List.{AllByRecursion}
use mathlib.Core.Option.{some}
use lib.ListN.{get_elem?}
use Rattle.pt_model.specs.declared.position.Position.{Position}
use Rattle.pt_model.specs.Layout.{Layout, IsLegalBlock, input_pages, end_of, pages_of_table}
use Rattle.pt_model.specs.Tables.{IsPosition, child_at, end_of_table, is_spine, needed, parent_of, spine_position, starting_top}
use Rattle.pt_model.specs.Words.{word_count, tag, placed_at, entry_of, root_frame, root_level, frame_limit, frame_address}
use Rattle.pt_view.specs.declared.view.View.{View}
use Rattle.pt_view.specs.declared.view.Node.{Node}
use Rattle.pt_view.specs.declared.view.Piece.{Piece}
use Rattle.pt_view.specs.declared.view.Prepared.{Prepared}
use Rattle.pt_model.specs.Sets.{one_if, IsAmong, IsSorted}
use Rattle.pt_view.specs.Lists.{IsIn}
use Rattle.pt_view.specs.Pieces.{first_of, table_of, words_of}
use Rattle.pt_view.specs.Calls.{is_in_span, meets_span}
use Rattle.pt_view.specs.Views.{spent}
use Rattle.pt_rule.specs.Totals.{total, Each, covers, holds, prepares, has_piece, has_word, has_bridge}
use Rattle.pt_rule.specs.Tags.{IsEnd, IsTag, Chained, is_held, is_placed}
use Rattle.pt_rule.specs.Linked.{IsLinked, IsLinkedAt, is_in_tree}

-- 1. Spans: each page of the space is in the span of exactly one view, and no other page is in one.
abbrev pub SpansPart : Layout → List View → Type 0
SpansPart f views = (page : ℕ) → total (covers page) views ≡ one_if (nat_lt page (input_pages f))

-- 2. Frames: each frame is free, or held in exactly one purse, or prepared by exactly one view, or linked;
-- and all entries of a frame that isn't linked are zero, but for the bridge of a prepared one.

-- a prepared frame's tag reads as the position that the view names, as a linked frame's does
abbrev pub IsPreparedAt : (words : List ℕ) → Option Prepared → Type 0
IsPreparedAt words None = Unit {0}
IsPreparedAt words (Some x) = placed_at (tag words x.frame) ≡ x.position

-- a prepared frame's bridge is linked at the spine position under the prepared one
abbrev pub HasBridge : Layout → (n : ℕ) → List ℕ → List View → (levels : ℕ) (p : Position) → Option ℕ → Type 0
HasBridge f n words views levels p None = Unit {0}
HasBridge f n words views levels p (Some bridge) =
    (level : ℕ) × (p ≡ spine_position (level + 1)) × IsLinkedAt n words views bridge (spine_position level) × (starting_top levels ≤ level)

abbrev pub IsBridged : Layout → (n : ℕ) → List ℕ → List View → (levels : ℕ) → Option Prepared → Type 0
IsBridged f n words views levels None = Unit {0}
IsBridged f n words views levels (Some x) = HasBridge f n words views levels x.position x.bridge

pub record FramesPart (f : Layout) (n : ℕ) (words : List ℕ) (views : List View) : Type 0 where
  pub tags : (frame : ℕ) → frame < n → IsTag f (tag words frame)
  pub held : (frame : ℕ) → frame < n → total (holds frame) views ≡ one_if (is_held (tag words frame))
  pub prepared : (frame : ℕ) → frame < n → total (prepares frame) views ≤ one_if (is_placed (tag words frame))
  pub none_held : (frame : ℕ) → n ≤ frame → total (holds frame) views ≡ 0
  pub none_prepared : (frame : ℕ) → n ≤ frame → total (prepares frame) views ≡ 0
  pub at : Each views (λ v. IsPreparedAt words v.prepared)
  pub bridges : Each views (λ v. IsBridged f n words views v.levels v.prepared)
  pub cleared : (frame number : ℕ) → frame < n → ¬ IsLinked n words views frame → number < 2 ^ f.index →
      entry_of f n words frame number ≡ total (has_bridge f frame number) views

-- 3. Positions: distinct linked frames are at distinct positions, and these are exactly those of the tree.
pub record PositionsPart (f : Layout) (n l : ℕ) (words : List ℕ) (views : List View) : Type 0 where
  pub distinct : (g h : ℕ) → IsLinked n words views g → IsLinked n words views h → tag words g ≡ tag words h → g ≡ h
  pub in_tree : (frame : ℕ) → IsLinked n words views frame → IsTrue (is_in_tree l words views (placed_at (tag words frame)))
  pub all : (p : Position) → IsTrue (is_in_tree l words views p) → (frame : ℕ) × IsLinkedAt n words views frame p

-- 4. Root: word 0 names the frame linked at the spine position of the greatest top of a view.
pub record RootPart (n : ℕ) (words : List ℕ) (views : List View) : Type 0 where
  pub is_linked : IsLinkedAt n words views (root_frame words) (spine_position (root_level words))
  pub greatest : Each views (λ v. v.top ≤ root_level words)
  pub reached : (j : ℕ) × (v : View) × (get_elem? views j ≡ some v) × (0 < v.count) × (v.top ≡ root_level words)

-- 5. Parents: every position of the tree but the root's has its parent in the tree, and the parent's frame
-- has the pointer to its frame at its entry.
abbrev pub slot_of : Layout → Position → ℕ
slot_of f p = p.base / pages_of_table f p.level % 2 ^ f.index

pub record ParentsPart (f : Layout) (n l : ℕ) (words : List ℕ) (views : List View) : Type 0 where
  pub closed : (p : Position) → IsTrue (is_in_tree l words views p) → p ≢ spine_position (root_level words) →
      IsTrue (is_in_tree l words views (parent_of f p))
  pub named : (g h : ℕ) (p : Position) → IsLinkedAt n words views h p → p ≢ spine_position (root_level words) →
      IsLinkedAt n words views g (parent_of f p) →
      entry_of f n words g (slot_of f p) ≡ f.pointer (p.level + 1) (frame_address f h)

-- 6. Entries: an entry of a linked frame for which the tree has no child is the word of the one piece that
-- stands there, or zero; each piece stands in a table of the tree, and no two at one entry.
abbrev pub has_child : Layout → (l : ℕ) → List ℕ → List View → Position → (number : ℕ) → Bool
has_child f l words views p number = nat_lt 0 p.level && is_in_tree l words views (child_at f p number)

pub record EntriesPart (f : Layout) (n l : ℕ) (words : List ℕ) (views : List View) : Type 0 where
  pub words_are : (frame number : ℕ) (p : Position) → IsLinkedAt n words views frame p → number < 2 ^ f.index →
      has_child f l words views p number ≡ false → entry_of f n words frame number ≡ total (has_word f p number) views
  pub apart : (number : ℕ) (p : Position) → has_child f l words views p number ≡ true → total (has_piece f p number) views ≡ 0
  pub once : (number : ℕ) (p : Position) → total (has_piece f p number) views ≤ 1
  pub homes : Each views (λ v. AllByRecursion (λ x. IsTrue (is_in_tree l words views (table_of f x))) v.pieces)

-- 7. Books: a live view's pieces belong to legal blocks of its span and below its top, whose needed
-- positions are its tables and the spine; its tables are in order, off the spine, and meet its span; its pieces
-- are in order too.
pub record IsOwnPiece (f : Layout) (v : View) (x : Piece) : Type 0 where
  pub a_part : x.part < words_of f x.block
  pub legal : IsLegalBlock f x.block
  pub stated : IsTrue (f.states x.block.prot)
  pub in_span : IsTrue (is_in_span v x.block.first (end_of x.block))
  pub under_top : end_of x.block ≤ pages_of_table f v.top
  pub has_needed : AllByRecursion (λ p. IsAmong v.tables p ⊎ (IsTrue (is_spine v.levels p) × (p.level ≤ v.top))) (needed f v.levels x.block)

pub record IsOwnTable (f : Layout) (v : View) (p : Position) : Type 0 where
  pub a_position : IsPosition f p
  pub off_spine : is_spine v.levels p ≡ false
  pub meets : IsTrue (meets_span v p.base (end_of_table f p))

-- the pieces are in the order of their first pages
abbrev pub PiecesInOrder : Layout → List Piece → Type 0
PiecesInOrder f [] = Unit {0}
PiecesInOrder f (x ∷ xs) = AllByRecursion (λ y. first_of f x ≤ first_of f y) xs × PiecesInOrder f xs

pub record HasBook (f : Layout) (v : View) : Type 0 where
  pub pieces : AllByRecursion (IsOwnPiece f v) v.pieces
  pub tables : AllByRecursion (IsOwnTable f v) v.tables
  pub in_order : IsSorted v.tables
  pub pieces_in_order : PiecesInOrder f v.pieces
  pub top_low : starting_top v.levels ≤ v.top
  pub top_high : v.top < f.levels

abbrev pub BooksPart : Layout → List View → Type 0
BooksPart f views = Each views (λ v. 0 < v.count → HasBook f v)

-- 8. Paths: each node is a frame linked where the node says, the first is of the spine, each further one is
-- a child of the one before it, and each is of the spine or meets the view's span.
pub record IsOnPath (f : Layout) (n : ℕ) (words : List ℕ) (views : List View) (v : View) (x : Node) : Type 0 where
  pub at : IsLinkedAt n words views x.frame x.position
  pub near : IsTrue (is_spine v.levels x.position) ⊎ IsTrue (meets_span v x.position.base (end_of_table f x.position))

pub record IsChild (f : Layout) (p q : Position) : Type 0 where
  pub number : ℕ
  pub within : number < 2 ^ f.index
  pub high : 0 < p.level
  pub is : q ≡ child_at f p number

abbrev pub Descends : Layout → List Node → Type 0
Descends f [] = Unit {0}
Descends f (x ∷ []) = Unit {0}
Descends f (x ∷ y ∷ xs) = IsChild f x.position y.position × Descends f (y ∷ xs)

abbrev pub BeginsOnSpine : (levels : ℕ) → List Node → Type 0
BeginsOnSpine levels [] = Unit {0}
BeginsOnSpine levels (x ∷ xs) = IsTrue (is_spine levels x.position)

pub record HasPath (f : Layout) (n : ℕ) (words : List ℕ) (views : List View) (v : View) : Type 0 where
  pub nodes : AllByRecursion (IsOnPath f n words views v) v.path
  pub begins : BeginsOnSpine v.levels v.path
  pub descends : Descends f v.path

abbrev pub PathsPart : Layout → (n : ℕ) → List ℕ → List View → Type 0
PathsPart f n words views = Each views (HasPath f n words views)

-- 9. Purses: the tag of each frame of a purse names the next one, and the last one's the end mark, which is
-- a frame or none.
pub record PursesPart (n : ℕ) (words : List ℕ) (views : List View) : Type 0 where
  pub chained : Each views (λ v. Chained words v.end v.purse)
  pub ends : Each views (λ v. IsEnd n v.end)

-- 10. Sizes: the words are those of a space of n frames, and each live view says so; a view that isn't live
-- is the spent one.
pub record SizesPart (f : Layout) (n l : ℕ) (words : List ℕ) (views : List View) : Type 0 where
  pub some_frame : 1 ≤ n
  pub limit : n ≤ frame_limit f
  pub words_are : length words ≡ word_count f n
  pub levels_low : f.start ≤ l
  pub levels_high : l ≤ f.levels
  pub live : Each views (λ v. 0 < v.count → (v.frames ≡ n) × (v.levels ≡ l))
  pub dead : Each views (λ v. v.count ≡ 0 → v ≡ spent)

-- 11. Busy: no frame of the busy list of a view of the whole space is free.
abbrev pub BusyPart : Layout → (n : ℕ) → List ℕ → List View → Type 0
BusyPart f n words views = Each views (λ v. v.count ≡ input_pages f → (frame : ℕ) → frame < n → IsIn v.busy frame → tag words frame ≢ 0)

-- 12. Known: each known position is of the tree, and is of the spine or meets the view's span.
abbrev pub KnownPart : Layout → (l : ℕ) → List ℕ → List View → Type 0
KnownPart f l words views = Each views (λ v. (p : Position) → IsAmong v.known p →
    IsTrue (is_in_tree l words views p) × (IsTrue (is_spine v.levels p) ⊎ IsTrue (meets_span v p.base (end_of_table f p))))

pub record Lawful (f : Layout) (n l : ℕ) (words : List ℕ) (views : List View) : Type 0 where
  pub spans : SpansPart f views
  pub frames : FramesPart f n words views
  pub positions : PositionsPart f n l words views
  pub root : RootPart n words views
  pub parents : ParentsPart f n l words views
  pub entries : EntriesPart f n l words views
  pub books : BooksPart f views
  pub paths : PathsPart f n words views
  pub purses : PursesPart n words views
  pub sizes : SizesPart f n l words views
  pub busy : BusyPart f n words views
  pub known : KnownPart f l words views

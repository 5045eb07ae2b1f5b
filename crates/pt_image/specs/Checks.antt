-- What the parts of the check need, and what they leave.
use Rattle.std.specs.Prelude.{◌≡◌, ◌≢◌, ℕ, ◌+◌, ◌/◌, ◌%◌, ◌^◌, ◌<◌, ◌≤◌, List, ◌++◌, length, IsTrue}
use Rattle.pt_model.specs.declared.block.Block.{Block}
use Rattle.pt_model.specs.declared.position.Position.{Position}
use Rattle.pt_model.specs.Layout.{Layout, IsLegalBlock, input_pages, level_of_size}
use Rattle.pt_model.specs.Tables.{IsPosition, starting_top}
use Rattle.pt_model.specs.Words.{frame_limit, tag, word_count}
use Rattle.pt_view.specs.Calls.{entry_first}
use Rattle.pt_view.specs.Pieces.{word_of, words_of}
use Rattle.pt_image.specs.Bytes.{entry_at, image_length, root_in}
use Rattle.pt_image.specs.Drafts.{Copies, group_words, part_of}
use Rattle.pt_image.specs.Faults.{AreGood, HasBlockAt, IsReached, NamesFirstBad}
use Rattle.pt_image.specs.Order.{Visit, visits}
use Rattle.pt_image.specs.Visits.{HasNoStray, Visits}
use Rattle.pt_image.specs.declared.fault.ImageFault.{ImageFault}
use Rattle.pt_image.specs.declared.fault.ImageFault.TheVariants.{Stray}
use Rattle.pt_image.specs.declared.header.Header.{Header}
use Rattle.pt_image.specs.declared.table.Table.{Table}
use Rattle.pt_image.specs.declared.table.Entry.{Entry}

-- a header that was read from an image, which has exactly the bytes that it says
pub record IsHeaderOf (f : Layout) (h : Header) (image : List ℕ) : Type 0 where
  pub some : 1 ≤ h.frames
  pub few : h.frames ≤ frame_limit f
  pub low : f.start ≤ h.levels
  pub high : h.levels ≤ f.levels
  pub long : length image ≡ image_length f h.frames

-- words of a space of so many frames
abbrev pub AreWords : Layout → Header → List ℕ → Type 0
AreWords f h words = length words ≡ word_count f h.frames

abbrev pub position_of : Table → Position
position_of t = record { level = t.level; base = t.base }

-- a table is in a frame of the image, at a position of the tree
pub record IsTableIn (f : Layout) (h : Header) (t : Table) : Type 0 where
  pub a_frame : t.frame < h.frames
  pub at : IsPosition f (position_of t)

-- an entry of a table isn't zero, and its pages are of the space
pub record IsEntryIn (f : Layout) (h : Header) (image : List ℕ) (t : Table) (e : Entry) : Type 0 where
  pub below : e.number < 2 ^ f.index
  pub first_is : e.first ≡ entry_first f (position_of t) e.number
  pub inside : e.first < input_pages f
  pub word_is : e.word ≡ entry_at f image t.frame e.number
  pub some : e.word ≢ 0

-- the image has the words of a block from an entry on
abbrev pub HasBlock : Layout → (image : List ℕ) → (frame number : ℕ) → Block → (count : ℕ) → Type 0
HasBlock f image frame number block count = (part : ℕ) → part < count → entry_at f image frame (number + part) ≡ word_of f (part_of block part)

-- a legal block that begins at an entry is copied, which has so many words, as the image has
pub record IsCopied (f : Layout) (n : ℕ) (image words words' : List ℕ) (t : Table) (e : Entry) (count : ℕ) : Type 0 where
  pub block : Block
  pub level_is : level_of_size f block.log2 ≡ t.level
  pub first_is : block.first ≡ e.first
  pub legal : IsLegalBlock f block
  pub stated : IsTrue (f.states block.prot)
  pub count_is : words_of f block ≡ count
  pub words_are : words' ≡ group_words f n words t.frame e.number block count
  pub image_has : HasBlock f image t.frame e.number block count

-- a copy of the table, from before its first entry to before entry `number`
abbrev pub CopiesTo : Layout → Header → (words words' : List ℕ) → Table → (number : ℕ) → Type 0
CopiesTo f h words words' t number = Copies f h.frames (starting_top h.levels) words words' t.frame number (position_of t)

-- a visit of the table, from before its first entry to before entry `number`
abbrev pub VisitsTo : Layout → Header → (image words words' : List ℕ) → Table → (number : ℕ) → Type 0
VisitsTo f h image words words' t number = Visits f h.frames image words words' t.frame number

-- a copy and a visit up to an entry go on behind the `count` entries that are done
pub record GoesOn (f : Layout) (h : Header) (image words words' : List ℕ) (t : Table) (number count : ℕ) : Type 0 where
  pub some : 0 < count
  pub fits : number + count ≤ 2 ^ f.index
  pub copies : (before : List ℕ) → CopiesTo f h before words t number → CopiesTo f h before words' t (number + count)
  pub visits : (before : List ℕ) → VisitsTo f h image before words t number → VisitsTo f h image before words' t (number + count)

-- the root's table: the root names a frame of the image, and a level that a root can have
pub record IsRootTable (f : Layout) (h : Header) (image : List ℕ) (t : Table) : Type 0 where
  pub frame_is : root_in image / 8 ≡ t.frame
  pub level_is : root_in image % 8 ≡ t.level
  pub base_is : t.base ≡ 0
  pub a_frame : t.frame < h.frames
  pub low : h.levels ≤ t.level + 1
  pub high : t.level < f.levels

-- each block of the image that begins in a table before an entry ends before it
abbrev pub EndBefore : Layout → (image : List ℕ) → (frame : ℕ) → Position → (number : ℕ) → Type 0
EndBefore f image frame p number = (b : Block) (i : ℕ) → i < number → HasBlockAt f image frame p i b → i + words_of f b ≤ number

-- so many entries of a table from one on, in the order of visits
abbrev pub visits_of : Layout → Header → (image : List ℕ) → Table → (number count : ℕ) → List Visit
visits_of f h image t number count = visits f h.frames image t.level t.frame t.base number count

-- What the walk has seen before an entry of a table, `before` being the entries that were visited: the frames that they reach are
-- those with a tag, and no block of the table goes over the entry.
pub record Sees (f : Layout) (h : Header) (image words : List ℕ) (before : List Visit) (t : Table) (number : ℕ) : Type 0 where
  pub tagged : (frame : ℕ) → frame < h.frames → tag words frame ≢ 0 → IsReached f h.frames h.levels image before frame
  pub reached : (frame : ℕ) → frame < h.frames → IsReached f h.frames h.levels image before frame → tag words frame ≢ 0
  pub ends : EndBefore f image t.frame (position_of t) number

-- so many entries from one on are good, and the walk has seen them
pub record FindsGood (f : Layout) (h : Header) (image words : List ℕ) (before : List Visit) (t : Table) (number count : ℕ) : Type 0 where
  pub good : AreGood f h.frames h.levels image before (visits_of f h image t number count)
  pub sees : Sees f h image words (before ++ visits_of f h image t number count) t (number + count)

-- a walk from an entry on that has seen all before finds the next `count` entries good
abbrev pub LeavesGood : Layout → Header → (image words words' : List ℕ) → Table → (number count : ℕ) → Type 0
LeavesGood f h image words words' t number count = (before : List Visit) → Sees f h image words before t number → FindsGood f h image words' before t number count

-- a walk from an entry on that has seen all before refuses the image for the first bad one of the next `count` entries
abbrev pub RefusesFor : Layout → Header → (image words : List ℕ) → Table → (number count : ℕ) → ImageFault → Type 0
RefusesFor f h image words t number count x =
    (before : List Visit) → Sees f h image words before t number → NamesFirstBad f h.frames h.levels image before (visits_of f h image t number count) x

-- the first entry of a frame of the image that isn't zero
pub record IsFirstUsed (f : Layout) (image : List ℕ) (frame index : ℕ) : Type 0 where
  pub below : index < 2 ^ f.index
  pub some : entry_at f image frame index ≢ 0
  pub least : (i : ℕ) → i < index → entry_at f image frame i ≡ 0

-- the fault names the first entry that isn't zero of the frames that are free in the words
abbrev pub NamesFirstUsed : Layout → (n : ℕ) → (image words : List ℕ) → ImageFault → Type 0
NamesFirstUsed f n image words (Stray frame index) =
    (frame < n) × (tag words frame ≡ 0) × IsFirstUsed f image frame index × HasNoStray f frame image words
NamesFirstUsed f n image words x = ⊥

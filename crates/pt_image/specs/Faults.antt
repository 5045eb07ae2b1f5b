-- The faults of an image, in the order in which they are tested. The image is of n frames, and its space started with l levels.
use Rattle.std.specs.Prelude.{◌≡◌, ◌≢◌, ◌⊎◌, ℕ, ◌+◌, ◌/◌, ◌%◌, ◌^◌, ◌<◌, ◌≤◌, List, [], ◌∷◌, ◌++◌, Option, None, Some, IsTrue}
use Rattle.pt_model.specs.declared.block.Block.{Block}
use Rattle.pt_model.specs.declared.block.Prot.{Prot}
use Rattle.pt_model.specs.declared.position.Position.{Position}
use Rattle.pt_model.specs.Layout.{Layout, IsLegalBlock, input_pages, level_of_size}
use Rattle.pt_model.specs.Tables.{starting_top}
use Rattle.pt_format.specs.Words.{IsLeaf, IsPointer}
use Rattle.pt_format.specs.Reading.{IsAlien}
use Rattle.pt_view.specs.Calls.{entry_first}
use Rattle.pt_view.specs.Pieces.{word_of, words_of}
use Rattle.pt_image.specs.Bytes.{entry_at, root_in}
use Rattle.pt_image.specs.Drafts.{part_of}
use Rattle.pt_image.specs.Order.{Visit, pointed, visits}
use Rattle.pt_image.specs.declared.fault.EntryFault.{EntryFault}
use Rattle.pt_image.specs.declared.fault.EntryFault.TheVariants.{Outside, Alien, Pointer, Shared, Group, Spine}
use Rattle.pt_image.specs.declared.fault.ImageFault.{ImageFault}
use Rattle.pt_image.specs.declared.fault.ImageFault.TheVariants.{Truncated, Header, Root, Entry, Stray}
use Rattle.pt_image.specs.declared.fault.CheckRefused.{CheckRefused}
use Rattle.pt_image.specs.declared.fault.CheckRefused.TheVariants.{Fault, Memory}

-- a legal block begins at an entry of a table, and each of its words is in its place
pub record HasBlockAt (f : Layout) (image : List ℕ) (frame : ℕ) (p : Position) (number : ℕ) (b : Block) : Type 0 where
  pub legal : IsLegalBlock f b
  pub stated : IsTrue (f.states b.prot)
  pub level_is : level_of_size f b.log2 ≡ p.level
  pub first_is : b.first ≡ entry_first f p number
  pub words : (part : ℕ) → part < words_of f b → entry_at f image frame (number + part) ≡ word_of f (part_of b part)

-- an entry is a word of a legal block, each of whose words is in its place
pub record IsInBlock (f : Layout) (image : List ℕ) (v : Visit) : Type 0 where
  pub block : Block
  pub number : ℕ
  pub part : ℕ
  pub here : number + part ≡ v.number
  pub a_part : part < words_of f block
  pub has : HasBlockAt f image v.frame v.position number block

module _ (f : Layout) (n l : ℕ) (image : List ℕ) where
  abbrev pub word_in : Visit → ℕ
  word_in v = entry_at f image v.frame v.number

  abbrev pub page_under : Visit → ℕ
  page_under v = entry_first f v.position v.number

  abbrev pub IsInside : Visit → Type 0
  IsInside v = page_under v < input_pages f

  -- the frame to which an entry points
  abbrev pub target : Visit → Option ℕ
  target v = pointed f v.position.level n (word_in v)

  -- one of these entries points to the frame
  abbrev pub IsNamed : List Visit → (frame : ℕ) → Type 0
  IsNamed [] frame = ⊥
  IsNamed (v ∷ vs) frame = (target v ≡ Some frame) ⊎ IsNamed vs frame

  -- the frame is the root's, or one of these entries points to it
  abbrev pub IsReached : List Visit → (frame : ℕ) → Type 0
  IsReached vs frame = (root_in image / 8 ≡ frame) ⊎ IsNamed vs frame

  -- an entry must be a pointer: it is entry 0 of a table of the spine above the level at which the space started
  pub record IsOfSpine (v : Visit) : Type 0 where
    pub first : v.number ≡ 0
    pub at_page_0 : v.position.base ≡ 0
    pub above : starting_top l < v.position.level

  -- an entry has this fault and none that is tested before it, where the entries `before` were visited before
  abbrev pub HasFault : (before : List Visit) → Visit → EntryFault → Type 0
  HasFault before v Outside = (word_in v ≢ 0) × (input_pages f ≤ page_under v)
  HasFault before v Alien = IsInside v × IsAlien f v.position.level (word_in v)
  HasFault before v Pointer = IsInside v × (address : ℕ) × IsPointer f v.position.level (word_in v) address × (target v ≡ None)
  HasFault before v Shared = IsInside v × (frame : ℕ) × (target v ≡ Some frame) × IsReached before frame
  HasFault before v Group = IsInside v × (log2 : ℕ) × (prot : Prot) × IsLeaf f v.position.level (word_in v) log2 prot × ¬ IsInBlock f image v
  HasFault before v Spine = IsOfSpine v × ((word_in v ≡ 0) ⊎ IsInBlock f image v)

  abbrev pub IsGoodEntry : (before : List Visit) → Visit → Type 0
  IsGoodEntry before v = (e : EntryFault) → ¬ HasFault before v e

  -- each of these entries is good, where those before it in the list were visited too
  abbrev pub AreGood : (before : List Visit) → List Visit → Type 0
  AreGood before [] = Unit {0}
  AreGood before (v ∷ vs) = IsGoodEntry before v × AreGood (before ++ v ∷ []) vs

  -- an entry of the list has a fault, and those before it are good
  pub record IsFirstBad (before vs : List Visit) (v : Visit) (e : EntryFault) : Type 0 where
    pub done : List Visit
    pub rest : List Visit
    pub list_is : vs ≡ done ++ v ∷ rest
    pub good : AreGood before done
    pub bad : HasFault (before ++ done) v e

  -- the fault names the first entry that is bad
  abbrev pub NamesFirstBad : (before vs : List Visit) → ImageFault → Type 0
  NamesFirstBad before vs (Entry level base index fault) =
      (frame : ℕ) × IsFirstBad before vs (record { frame = frame; position = record { level = level; base = base }; number = index }) fault
  NamesFirstBad before vs x = ⊥

  -- the root names one of the frames, and a level that a root can have
  pub record HasRoot : Type 0 where
    pub a_frame : root_in image / 8 < n
    pub low : l ≤ root_in image % 8 + 1
    pub high : root_in image % 8 < f.levels

  -- all entries of the image's tables, in order
  abbrev pub all_visits : List Visit
  all_visits = visits f n image (root_in image % 8) (root_in image / 8) 0 0 (2 ^ f.index)

  -- an entry isn't zero, of a frame that isn't reached
  pub record IsStray (frame index : ℕ) : Type 0 where
    pub a_frame : frame < n
    pub an_entry : index < 2 ^ f.index
    pub free : ¬ IsReached all_visits frame
    pub some : entry_at f image frame index ≢ 0

  -- the lowest entry of the lowest frame that is stray
  pub record IsFirstStray (frame index : ℕ) : Type 0 where
    pub here : IsStray frame index
    pub frame_least : (g i : ℕ) → IsStray g i → frame ≤ g
    pub index_least : (i : ℕ) → IsStray frame i → index ≤ i

  -- the image has none of the faults
  pub record IsGoodImage : Type 0 where
    pub root : HasRoot
    pub entries : AreGood [] all_visits
    pub no_stray : (frame index : ℕ) → ¬ IsStray frame index

  -- the image has this fault, and none that is tested before it; an image whose header is good has no fault of the first two
  abbrev pub IsRefusedFor : ImageFault → Type 0
  IsRefusedFor (Truncated have want) = ⊥
  IsRefusedFor (Header offset) = ⊥
  IsRefusedFor Root = ¬ HasRoot
  IsRefusedFor (Entry level base index fault) = HasRoot × NamesFirstBad [] all_visits (Entry level base index fault)
  IsRefusedFor (Stray frame index) = HasRoot × AreGood [] all_visits × IsFirstStray frame index

  -- the image isn't taken for this fault, or for want of memory
  abbrev pub IsRefusal : CheckRefused → Type 0
  IsRefusal (Fault fault) = IsRefusedFor fault
  IsRefusal Memory = Unit {0}

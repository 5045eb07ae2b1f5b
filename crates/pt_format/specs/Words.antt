-- The words that a format writes.
use Rattle.std.specs.Prelude.{◌≡◌, ℕ, ◌+◌, ◌-◌, ◌*◌, ◌/◌, ◌%◌, ◌^◌, ◌<◌, ◌≤◌, ◌↔◌, IsTrue, IsBitSet}
use Rattle.pt_model.specs.declared.block.Prot.{Prot}
use Rattle.pt_model.specs.Layout.{Layout, is_size, level_of_size, output_pages, pages_of_entry}

abbrev pub HasSizes : Layout → ℕ → ℕ → Type 0
HasSizes f level mask =
    (k : ℕ) → IsBitSet mask k ↔ (IsTrue (is_size f k) × (level_of_size f k ≡ level))

pub record MayBeLeaf (f : Layout) (level log2 out : ℕ) (prot : Prot) (part : ℕ) : Type 0 where
  pub below : level < f.levels
  pub a_size : IsTrue (is_size f log2)
  pub at_level : level_of_size f log2 ≡ level
  pub aligned : out % 2 ^ log2 ≡ 0
  pub within : out + 2 ^ log2 ≤ output_pages f
  pub stated : IsTrue (f.states prot)
  pub a_part : part < 2 ^ (log2 - f.index * level)

-- the words of one block, of the size of a leaf of a level
abbrev pub words_in : Layout → (level log2 : ℕ) → ℕ
words_in f level log2 = 2 ^ (log2 - f.index * level)

-- each word of `count` equal blocks that follow each other may be written, the first block being onto the pages from `out`
abbrev pub MayBeLeaves : Layout → (level log2 out : ℕ) → Prot → (count : ℕ) → Type 0
MayBeLeaves f level log2 out prot count =
    (e : ℕ) → e < count * words_in f level log2 →
    MayBeLeaf f level log2 (out + e / words_in f level log2 * 2 ^ log2) prot (e % words_in f level log2)

-- the words of so many blocks go by a step, and each is one of 64 bits
pub record GoBy (f : Layout) (level log2 out : ℕ) (prot : Prot) (blocks step : ℕ) : Type 0 where
  pub goes : (e : ℕ) → e < blocks * words_in f level log2 →
      f.leaf level log2 (out + e / words_in f level log2 * 2 ^ log2) prot (e % words_in f level log2) ≡ f.leaf level log2 out prot 0 + e * step
  pub within : (e : ℕ) → e < blocks * words_in f level log2 → f.leaf level log2 out prot 0 + e * step < 2 ^ 64

pub record IsTableLevel (f : Layout) (level : ℕ) : Type 0 where
  pub above : 1 ≤ level
  pub below : level < f.levels

pub record IsFrameAddress (granule address : ℕ) : Type 0 where
  pub frame : ℕ
  pub in_limit : frame < 2 ^ (27 - granule)
  pub address_is : address ≡ 2 ^ 32 + frame * 2 ^ granule

abbrev pub IsTableAddress : Layout → ℕ → Type 0
IsTableAddress f address = IsFrameAddress f.granule address

-- this is a word of a block of this size and permission
pub record IsLeaf (f : Layout) (level word log2 : ℕ) (prot : Prot) : Type 0 where
  pub out : ℕ
  pub part : ℕ
  pub may : MayBeLeaf f level log2 out prot part
  pub word_is : word ≡ f.leaf level log2 out prot part

-- this is the pointer to the table at this address
pub record IsPointer (f : Layout) (level word address : ℕ) : Type 0 where
  pub at_level : IsTableLevel f level
  pub a_frame : IsTableAddress f address
  pub word_is : word ≡ f.pointer level address

-- a page lies under part number `part` of a block that begins at page `first`
pub record IsUnder (f : Layout) (level log2 first part page : ℕ) : Type 0 where
  pub aligned : first % 2 ^ log2 ≡ 0
  pub from : first + part * pages_of_entry f level ≤ page
  pub to : page < first + (part + 1) * pages_of_entry f level

-- a word that a format writes in a table of this level
pub data IsWritten (f : Layout) (level word : ℕ) : Type 0 where
  a_leaf : (log2 : ℕ) (prot : Prot) → IsLeaf f level word log2 prot → IsWritten f level word
  a_pointer : (address : ℕ) → IsPointer f level word address → IsWritten f level word

-- The family of formats whose tables have 512 entries over pages of 4 KiB. An entry has an address in bits 51:12, PS
-- (page size) in bit 7, and its other bits below that. In the lowest table it maps 4 KiB, one level up, with PS, 2 MiB,
-- two levels up 1 GiB, each by one word.
use Rattle.std.specs.Prelude.{◌≡◌, ◌≢◌, ℕ, zero, suc, ◌+◌, ◌*◌, ◌%◌, ◌^◌, ◌<◌, ◌≤◌, [], ◌∷◌, List, Bool, false, if◌then◌else◌, IsTrue}
use Rattle.pt_model.specs.declared.block.Prot.{Prot}
use Rattle.pt_model.specs.declared.block.Prot.TheVariants.{Read, ReadWrite}
use Rattle.pt_model.specs.Layout.{Layout, Found, nothing, page, table, Reached, may_read, may_write}
use Rattle.pt_format.specs.Words.{IsFrameAddress}
use Rattle.pt_format.specs.Manual.{IsWalk}

-- bit 0, where reads are permitted, and bit 1, where writes are
abbrev pub read_bit : Prot → ℕ
read_bit prot = if may_read prot then 2 ^ 0 else 0

abbrev pub write_bit : Prot → ℕ
write_bit prot = if may_write prot then 2 ^ 1 else 0

-- bit 7, page size, in a table above the lowest
abbrev pub size_bit : (level : ℕ) → ℕ
size_bit zero = 0
size_bit (suc level) = 2 ^ 7

-- the entries of one manual
pub record Entries : Type 0 where
  -- whether a leaf can state a permission, and the bits of one that does, but for its address and PS
  pub states : Prot → Bool
  pub of_leaf : Prot → ℕ
  -- the bits of a pointer, but for its address
  pub of_pointer : ℕ
  -- the manual's step at a word of a table of `level`, for a page under it
  pub step : (level word page : ℕ) → Found

-- a block onto the pages from `out`
abbrev pub leaf : Entries → (level out : ℕ) → Prot → ℕ
leaf e level out prot = out * 2 ^ 12 + (e.of_leaf prot + size_bit level)

abbrev pub pointer : Entries → (address : ℕ) → ℕ
pointer e address = address + e.of_pointer

-- the block that a word maps, and what it permits
pub record IsLeafOf (e : Entries) (level word out : ℕ) (prot : Prot) : Type 0 where
  pub low_level : level < 3
  pub in_output : out < 2 ^ 40
  pub aligned : out % 2 ^ (9 * level) ≡ 0
  pub stated : IsTrue (e.states prot)
  pub word_is : word ≡ leaf e level out prot

-- the table that a word points to
pub record IsPointerOf (e : Entries) (level word address : ℕ) : Type 0 where
  pub above : 0 < level
  pub a_frame : IsFrameAddress 12 address
  pub word_is : word ≡ pointer e address

abbrev pub IsNoLeaf : Entries → (level word : ℕ) → Type 0
IsNoLeaf e level word = (out : ℕ) (prot : Prot) → ¬ IsLeafOf e level word out prot

abbrev pub IsNoPointer : Entries → (level word : ℕ) → Type 0
IsNoPointer e level word = (address : ℕ) → ¬ IsPointerOf e level word address

-- where bits are those of a leaf, this is its permission
abbrev pub IsPermissionIn : Entries → (bits : ℕ) → Prot → Type 0
IsPermissionIn e bits result = (prot : Prot) → IsTrue (e.states prot) → bits % 2 ^ 7 ≡ e.of_leaf prot → result ≡ prot

-- the bits of a leaf are low, some, and tell its permission; those of a pointer are low
pub record AreBits (e : Entries) : Type 0 where
  pub states_read : IsTrue (e.states Read)
  pub states_both : IsTrue (e.states ReadWrite)
  pub leaf_low : (prot : Prot) → IsTrue (e.states prot) → e.of_leaf prot < 2 ^ 7
  pub leaf_some : (prot : Prot) → IsTrue (e.states prot) → e.of_leaf prot ≢ 0
  pub one_permission : (p q : Prot) → IsTrue (e.states p) → IsTrue (e.states q) → e.of_leaf p ≡ e.of_leaf q → p ≡ q
  pub pointer_low : e.of_pointer < 2 ^ 7

-- the manual's step finds at a word what is written there, and at a leaf the page by its offset in the entry
pub record AreRead (e : Entries) : Type 0 where
  pub empty : (level here : ℕ) → e.step level 0 here ≡ nothing
  pub leaf_is : (level word out here : ℕ) (prot : Prot) → IsLeafOf e level word out prot →
      e.step level word here ≡ page (out + here % 2 ^ (9 * level)) prot
  pub pointer_is : (level word address here : ℕ) → IsPointerOf e level word address → e.step level word here ≡ table address

-- tables of so many levels, and the bits of an input address
pub record Tables : Type 0 where
  pub entries : Entries
  pub levels : ℕ
  pub input : ℕ
  -- the manual's walk
  pub walk : List ℕ → (address : ℕ) → Reached

abbrev pub tables : Entries → (levels input : ℕ) → (List ℕ → ℕ → Reached) → Tables
tables entries levels input walk = record { entries = entries; levels = levels; input = input; walk = walk }

-- the format of these tables, whose output addresses have 52 bits
abbrev pub layout : Tables → Layout
layout t = record {
  granule = 12;
  index = 9;
  input = t.input;
  output = 52;
  start = t.levels;
  levels = t.levels;
  grows = false;
  signed = false;
  sizes = 0 ∷ 9 ∷ 18 ∷ [];
  states = t.entries.states;
  pointer = λ level address. pointer t.entries address;
  leaf = λ level log2 out prot part. leaf t.entries level out prot;
  step = t.entries.step;
  walk = t.walk;
}

-- what makes tables a format
pub record AreTables (t : Tables) : Type 0 where
  pub bits : AreBits t.entries
  pub read : AreRead t.entries
  pub levels_low : 3 ≤ t.levels
  pub levels_high : t.levels ≤ 5
  pub input_low : 12 < t.input
  pub input_high : t.input ≤ 12 + 9 * t.levels
  pub is_walk : IsWalk (layout t)

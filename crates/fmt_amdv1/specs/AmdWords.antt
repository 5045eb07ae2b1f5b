-- The words of AMD tables of I/O pages, version 1. An entry has PR in bit 0, the next level in bits 11:9, the number of an
-- output page in bits 51:12, and IR and IW in bits 61 and 62.
use Rattle.std.specs.Prelude.{◌≡◌, ℕ, ◌+◌, ◌-◌, ◌*◌, ◌/◌, ◌%◌, ◌^◌, ◌<◌, ◌≤◌, ◌==◌, IsTrue, true, if◌then◌else◌}
use Rattle.std.specs.Int.{trailing_ones, w64}
use Rattle.std.specs.List.{range_with_len}
use Rattle.pt_model.specs.declared.block.Prot.{Prot}
use Rattle.pt_model.specs.declared.block.Prot.TheVariants.{ReadWrite}
use Rattle.pt_model.specs.Layout.{Layout, is_common, may_write}
use Rattle.pt_format.specs.Words.{IsFrameAddress}
use Rattle.pt_manual.specs.AmdWalk.{manual, next_level, walk}
use Rattle.fmt_nine_bit.specs.OverPages.{reached}
use Rattle.fmt_nine_bit.specs.ManualLayout.{Trees, Words, layout_of}

-- PR and IR, and IW where writes are permitted
abbrev pub bits_of : Prot → ℕ
bits_of prot = 2 ^ 0 + 2 ^ 61 + (if may_write prot then 2 ^ 62 else 0)

-- a word by the number in its address bits, its next level and its permission
abbrev pub word_of : (number next : ℕ) → Prot → ℕ
word_of number next prot = number * 2 ^ 12 + (next * 2 ^ 9 + bits_of prot)

-- A block of what an entry of the level maps has its output page as its number, and next level 0. A block of any other size
-- has next level 7, and codes its size in the low bits of the number: all of them are 1 below the highest, which is 0
abbrev pub number_of : (level log2 out : ℕ) → ℕ
number_of level log2 out = if log2 == 9 * level then out else out + (2 ^ (log2 - 1) - 1)

abbrev pub next_of : (level log2 : ℕ) → ℕ
next_of level log2 = if log2 == 9 * level then 0 else 7

-- each word of a block is this one
abbrev pub leaf : (level log2 out : ℕ) → Prot → ℕ
leaf level log2 out prot = word_of (number_of level log2 out) (next_of level log2) prot

-- all is permitted by a pointer; its next level, counted from 1, is its own, counted from 0
abbrev pub pointer : (level address : ℕ) → ℕ
pointer level address = word_of (address / 2 ^ 12) level ReadWrite

-- blocks of every size up to 2 ^ 26 pages
abbrev pub words : Words
words = record {
  output = 52;
  sizes = range_with_len 0 27;
  states = is_common;
  pointer = pointer;
  leaf = λ level log2 out prot part. leaf level log2 out prot;
}

-- trees of three to six levels
abbrev pub trees : Trees
trees = record { input = 64; start = 3; levels = 6; grows = true; walk = λ words address. reached (walk words address) }

abbrev pub layout : Layout
layout = layout_of words manual trees

-- a size of a level: from what an entry maps on, and below what an entry of the next level maps
pub record IsSizeOf (level log2 : ℕ) : Type 0 where
  pub low_level : level < 3
  pub from : 9 * level ≤ log2
  pub to : log2 < 9 * level + 9

-- a word is that of a block of 2 ^ log2 pages onto the pages from `out`
pub record IsLeafOf (level log2 out word : ℕ) (prot : Prot) : Type 0 where
  pub a_size : IsSizeOf level log2
  pub aligned : out % 2 ^ log2 ≡ 0
  pub within : out + 2 ^ log2 ≤ 2 ^ 40
  pub stated : IsTrue (is_common prot)
  pub word_is : word ≡ leaf level log2 out prot

-- the table that a word points to
pub record IsPointerOf (level word address : ℕ) : Type 0 where
  pub above : 0 < level
  pub below : level < 6
  pub a_frame : IsFrameAddress 12 address
  pub word_is : word ≡ pointer level address

abbrev pub IsNoLeaf : (level word : ℕ) → Type 0
IsNoLeaf level word = (log2 out : ℕ) (prot : Prot) → ¬ IsLeafOf level log2 out word prot

abbrev pub IsNoPointer : (level word : ℕ) → Type 0
IsNoPointer level word = (address : ℕ) → ¬ IsPointerOf level word address

-- the number in the address bits of a word, and the size of the leaf that a word is
abbrev pub number_in : ℕ → ℕ
number_in word = word / 2 ^ 12 % 2 ^ 40

abbrev pub log2_in : (level word : ℕ) → ℕ
log2_in level word = if next_level word == 7 then trailing_ones w64 (number_in word) + 1 else 9 * level

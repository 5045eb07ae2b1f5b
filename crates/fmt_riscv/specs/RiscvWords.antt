-- The words of RISC-V tables. An entry has the page number in bits 53:10, its other bits below, and N in bit 63.
use Rattle.std.specs.Prelude.{◌≡◌, ℕ, ◌+◌, ◌-◌, ◌*◌, ◌/◌, ◌%◌, ◌^◌, ◌<◌, ◌≤◌, nat_le, ◌==◌, [], ◌∷◌, List, IsTrue, if◌then◌else◌}
use Rattle.pt_model.specs.declared.block.Prot.{Prot}
use Rattle.pt_model.specs.Layout.{Layout, is_common, may_write}
use Rattle.pt_format.specs.Words.{IsFrameAddress}
use Rattle.pt_manual.specs.RiscvWalk.{manual}
use Rattle.fmt_nine_bit.specs.ManualLayout.{Words, layout_by}

-- V, R, U, A and D, and W where writes are permitted
abbrev pub of_leaf : Prot → ℕ
of_leaf prot = 2 ^ 0 + 2 ^ 1 + 2 ^ 4 + 2 ^ 6 + 2 ^ 7 + (if may_write prot then 2 ^ 2 else 0)

-- a page of what an entry maps, onto the pages from `out`
abbrev pub single : (out : ℕ) → Prot → ℕ
single out prot = out * 2 ^ 10 + of_leaf prot

-- sixteen pages as one: N, and 1000 in the low bits of the page number. All sixteen words are this one
abbrev pub sixteen : (out : ℕ) → Prot → ℕ
sixteen out prot = (out + 2 ^ 3) * 2 ^ 10 + (of_leaf prot + 2 ^ 63)

abbrev pub leaf : (log2 out : ℕ) → Prot → ℕ
leaf log2 out prot = if log2 == 4 then sixteen out prot else single out prot

-- V alone
abbrev pub pointer : (address : ℕ) → ℕ
pointer address = address / 2 ^ 12 * 2 ^ 10 + 2 ^ 0

-- blocks of 4 KiB, 64 KiB, 2 MiB and 1 GiB, and from four levels on of 512 GiB, with five of 256 TiB
abbrev pub sizes_of : (levels : ℕ) → List ℕ
sizes_of levels =
    if nat_le levels 3 then 0 ∷ 4 ∷ 9 ∷ 18 ∷ [] else (
    if nat_le levels 4 then 0 ∷ 4 ∷ 9 ∷ 18 ∷ 27 ∷ [] else 0 ∷ 4 ∷ 9 ∷ 18 ∷ 27 ∷ 36 ∷ [])

abbrev pub words : (levels : ℕ) → Words
words levels = record {
  output = 56;
  sizes = sizes_of levels;
  states = is_common;
  pointer = λ level address. pointer address;
  leaf = λ level log2 out prot part. leaf log2 out prot;
}

-- tables of three, four or five levels; input addresses are the lower half of canonical ones
abbrev pub layout : (levels : ℕ) → Layout
layout levels = layout_by (words levels) manual levels (11 + 9 * levels) (levels - 1)

-- this many levels are those of a format
pub data AreLevels (levels : ℕ) : Type 0 where
  three : levels ≡ 3 → AreLevels levels
  four : levels ≡ 4 → AreLevels levels
  five : levels ≡ 5 → AreLevels levels

-- a word is that of a block of what an entry of its level maps, or of sixteen pages, onto the pages from `out`
pub record IsSingle (level out word : ℕ) (prot : Prot) : Type 0 where
  pub within : out < 2 ^ 44
  pub aligned : out % 2 ^ (9 * level) ≡ 0
  pub stated : IsTrue (is_common prot)
  pub word_is : word ≡ single out prot

pub record IsSixteen (out word : ℕ) (prot : Prot) : Type 0 where
  pub within : out + 16 ≤ 2 ^ 44
  pub aligned : out % 16 ≡ 0
  pub stated : IsTrue (is_common prot)
  pub word_is : word ≡ sixteen out prot

-- the table that a word points to
pub record IsPointerOf (level word address : ℕ) : Type 0 where
  pub above : 0 < level
  pub a_frame : IsFrameAddress 12 address
  pub word_is : word ≡ pointer address

abbrev pub IsNoSingle : (level word : ℕ) → Type 0
IsNoSingle level word = (out : ℕ) (prot : Prot) → ¬ IsSingle level out word prot

abbrev pub IsNoSixteen : (word : ℕ) → Type 0
IsNoSixteen word = (out : ℕ) (prot : Prot) → ¬ IsSixteen out word prot

abbrev pub IsNoPointer : (level word : ℕ) → Type 0
IsNoPointer level word = (address : ℕ) → ¬ IsPointerOf level word address

-- where a word is a leaf, this is its permission
pub record IsPermissionIn (word : ℕ) (result : Prot) : Type 0 where
  pub of_single : (level out : ℕ) (prot : Prot) → IsSingle level out word prot → result ≡ prot
  pub of_sixteen : (out : ℕ) (prot : Prot) → IsSixteen out word prot → result ≡ prot

-- The words of VMSAv8-64 tables, by granule. A granule is named by the log2 of its bytes, and tables count from 0, the lowest,
-- which is the manual's level 3. A descriptor has its attributes below the address, and Contiguous in bit 52.
-- Source: Arm Architecture Reference Manual for A-profile architecture (DDI 0487), sections "Translation table
-- descriptor formats" and "The Contiguous bit", with its table of the sizes of groups.
use Rattle.std.specs.Prelude.{◌≡◌, ℕ, ◌+◌, ◌-◌, ◌*◌, ◌/◌, ◌%◌, ◌^◌, ◌<◌, nat_lt, ◌==◌, ◌&&◌, not, Bool, false, [], ◌∷◌, List, IsTrue, if◌then◌else◌}
use Rattle.pt_model.specs.declared.block.Prot.{Prot}
use Rattle.pt_model.specs.Layout.{Layout, Found, nothing, page, table, alien, is_common, may_write}
use Rattle.pt_format.specs.Words.{IsFrameAddress}
use Rattle.pt_manual.specs.VmsaWalk.{AP2, BLOCK, CONTIGUOUS, IsGranule, TABLE, VALID, descriptor_at, index_bits, start_level, walk}
use Rattle.pt_manual.specs.declared.descriptor.Descriptor.{Descriptor}
use Rattle.pt_manual.specs.declared.descriptor.Descriptor.TheVariants.{Invalid, Reserved, Table, Page}
use Rattle.fmt_nine_bit.specs.OverPages.{reached}

abbrev pub levels_of : (granule : ℕ) → ℕ
levels_of granule = 4 - start_level granule

-- the levels that have blocks or pages: three with a granule of 4 KiB, two with the others
abbrev pub has_leaves : (granule level : ℕ) → Bool
has_leaves granule level = nat_lt level (if granule == 12 then 3 else 2)

-- the pages that an entry of a level maps, and the entries of a contiguous group, each as a log2
abbrev pub entry_size : (granule level : ℕ) → ℕ
entry_size granule level = index_bits granule * level

abbrev pub group_log2 : (granule level : ℕ) → ℕ
group_log2 granule level = if granule == 12 then 4 else (if granule == 14 && level == 0 then 7 else 5)

-- an entry alone, and a group, in each level that has leaves
abbrev pub sizes_of : (granule : ℕ) → List ℕ
sizes_of granule =
    if granule == 12 then 0 ∷ 4 ∷ 9 ∷ 13 ∷ 18 ∷ 22 ∷ [] else (
    if granule == 14 then 0 ∷ 7 ∷ 11 ∷ 16 ∷ [] else 0 ∷ 5 ∷ 13 ∷ 18 ∷ [])

-- the size of a block whose entries are contiguous, or that is of one entry
abbrev pub size_of : (granule level : ℕ) → (contiguous : Bool) → ℕ
size_of granule level contiguous = entry_size granule level + (if contiguous then group_log2 granule level else 0)

-- the attributes of a leaf: those of a block descriptor, in the lowest table of a page descriptor
abbrev pub of_leaf : (level : ℕ) → Prot → ℕ
of_leaf level prot = BLOCK + ((if level == 0 then TABLE else 0) + (if may_write prot then 0 else AP2))

abbrev pub in_group : Bool → ℕ
in_group contiguous = if contiguous then CONTIGUOUS else 0

-- the entry of a leaf, onto its own pages from `own`
abbrev pub entry_word : (granule level own : ℕ) → Prot → (contiguous : Bool) → ℕ
entry_word granule level own prot contiguous = own * 2 ^ granule + (of_leaf level prot + in_group contiguous)

-- each part of a block has its own address
abbrev pub leaf : (granule level log2 out : ℕ) → Prot → (part : ℕ) → ℕ
leaf granule level log2 out prot part =
    entry_word granule level (out + part * 2 ^ entry_size granule level) prot (not (log2 == entry_size granule level))

-- the address, and the kind of a table descriptor
abbrev pub pointer : (address : ℕ) → ℕ
pointer address = address + (VALID + TABLE)

-- what a descriptor says of page `place`
abbrev pub found : (granule place : ℕ) → Descriptor → Found
found granule place Invalid = nothing
found granule place Reserved = alien
found granule place (Table address) = table address
found granule place (Page address log2 prot) = page (address / 2 ^ granule + place % 2 ^ (log2 - granule)) prot

abbrev pub layout : (granule : ℕ) → Layout
layout granule = record {
  granule = granule;
  index = index_bits granule;
  input = 48;
  output = 48;
  start = levels_of granule;
  levels = levels_of granule;
  grows = false;
  signed = false;
  sizes = sizes_of granule;
  states = is_common;
  pointer = λ level address. pointer address;
  leaf = λ level log2 out prot part. leaf granule level log2 out prot part;
  step = λ level word place. found granule place (descriptor_at granule (3 - level) word);
  walk = λ words address. reached (walk words granule address);
}

-- a word is an entry of a leaf of its level, onto the pages from `own`
pub record IsEntry (granule level own word : ℕ) (prot : Prot) (contiguous : Bool) : Type 0 where
  pub at_leaves : IsTrue (has_leaves granule level)
  pub within : own < 2 ^ (48 - granule)
  pub aligned : own % 2 ^ entry_size granule level ≡ 0
  pub stated : IsTrue (is_common prot)
  pub word_is : word ≡ entry_word granule level own prot contiguous

-- the table that a word points to
pub record IsPointerOf (granule level word address : ℕ) : Type 0 where
  pub above : 0 < level
  pub below : level < levels_of granule
  pub a_frame : IsFrameAddress granule address
  pub word_is : word ≡ pointer address

abbrev pub IsEntryOf : (granule level word : ℕ) → Prot → Type 0
IsEntryOf granule level word prot = (own : ℕ) × (contiguous : Bool) × IsEntry granule level own word prot contiguous

abbrev pub IsNoEntry : (granule level word : ℕ) → Type 0
IsNoEntry granule level word = (own : ℕ) (prot : Prot) (contiguous : Bool) → ¬ IsEntry granule level own word prot contiguous

abbrev pub IsNoPointer : (granule level word : ℕ) → Type 0
IsNoPointer granule level word = (address : ℕ) → ¬ IsPointerOf granule level word address

-- where a word is an entry of a leaf, this is its permission
abbrev pub IsPermissionIn : (word : ℕ) (result : Prot) → Type 0
IsPermissionIn word result =
    (granule level own : ℕ) (prot : Prot) (contiguous : Bool) → IsGranule granule → IsEntry granule level own word prot contiguous →
    result ≡ prot

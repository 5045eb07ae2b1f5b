-- The walk of VMSAv8-64 tables, of granules of 4, 16 and 64 KiB. A granule is named by the log2 of its bytes.
-- Source: Arm Architecture Reference Manual for A-profile architecture (DDI 0487), chapter "The AArch64 Virtual Memory
-- System Architecture", sections "Translation process" with its tables of the bits that each granule resolves at each level,
-- "Translation table descriptor formats", and "Memory access control" and "Memory region attributes" for their fields. Bits
-- that the profile leaves at 0 are reserved here.
use Rattle.std.specs.Prelude.{◌≡◌, ◌<◌, ℕ, zero, suc, ◌+◌, ◌-◌, ◌*◌, ◌/◌, ◌%◌, ◌^◌, List, length, nat_lt, nat_le, ◌==◌, ◌&&◌, ◌||◌, Bool, not, if◌then◌else◌}
use Rattle.pt_model.specs.declared.block.Prot.{Prot}
use Rattle.pt_model.specs.declared.block.Prot.TheVariants.{Read, ReadWrite}
use Rattle.pt_model.specs.Words.{entry_in, frame_beginning, frames_of, root_frame, root_level}
use Rattle.pt_manual.specs.EntryBits.{has, has_only, is_aligned}
use Rattle.pt_manual.specs.NineBitWalk.{names_frame}
use Rattle.pt_manual.specs.declared.descriptor.Descriptor.{Descriptor}
use Rattle.pt_manual.specs.declared.descriptor.Descriptor.TheVariants.{Invalid, Reserved, Table, Page}
use Rattle.pt_manual.specs.declared.walked.Walked.{Walked}
use Rattle.pt_manual.specs.declared.walked.Walked.TheVariants.{None, Alien}
use Rattle.pt_manual.specs.declared.walked.Walked.TheVariants as W

pub data IsGranule (granule : ℕ) : Type 0 where
  of_4_kib : granule ≡ 12 → IsGranule granule
  of_16_kib : granule ≡ 14 → IsGranule granule
  of_64_kib : granule ≡ 16 → IsGranule granule

-- a table is one granule of descriptors of eight bytes
abbrev pub index_bits : (granule : ℕ) → ℕ
index_bits granule = granule - 3

-- the level at which the walk of an address of 48 bits starts; level 3 is the last
abbrev pub start_level : (granule : ℕ) → ℕ
start_level granule = if granule == 16 then 1 else 0

-- the bytes under a descriptor of a level, as a log2
abbrev pub entry_log2 : (granule level : ℕ) → ℕ
entry_log2 granule level = granule + index_bits granule * (3 - level)

-- the index of an address in a table of a level
abbrev pub index_at : (granule level address : ℕ) → ℕ
index_at granule level address = address / 2 ^ entry_log2 granule level % 2 ^ index_bits granule

-- the levels that have block descriptors: 1 and 2 with a granule of 4 KiB, 2 with the others
abbrev pub has_blocks : (granule level : ℕ) → Bool
has_blocks granule level = level == 2 || (level == 1 && granule == 12)

-- valid; table or page, not block; AP[1], unprivileged access; AP[2], read-only; SH, inner shareable; the access flag; not
-- global; and contiguous
abbrev pub VALID : ℕ
VALID = 2 ^ 0

abbrev pub TABLE : ℕ
TABLE = 2 ^ 1

abbrev pub AP1 : ℕ
AP1 = 2 ^ 6

abbrev pub AP2 : ℕ
AP2 = 2 ^ 7

abbrev pub SH : ℕ
SH = 2 ^ 8 + 2 ^ 9

abbrev pub AF : ℕ
AF = 2 ^ 10

abbrev pub NG : ℕ
NG = 2 ^ 11

abbrev pub CONTIGUOUS : ℕ
CONTIGUOUS = 2 ^ 52

-- what is set in each block descriptor, with AttrIndx 0
abbrev pub BLOCK : ℕ
BLOCK = VALID + AP1 + SH + AF + NG

-- the address in bits 47 down to the granule, in place, and the other bits
abbrev pub address_in : (granule word : ℕ) → ℕ
address_in granule word = word % 2 ^ 48 / 2 ^ granule * 2 ^ granule

abbrev pub others_in : (granule word : ℕ) → ℕ
others_in granule word = word - address_in granule word

abbrev pub permission_of : (others : ℕ) → Prot
permission_of others = if has AP2 others then Read else ReadWrite

-- a descriptor of a table of `level`, by its address and its other bits: invalid, a table descriptor, a page descriptor, a
-- block descriptor, or of no form
abbrev pub descriptor_by : (granule level address others : ℕ) → Descriptor
descriptor_by granule level address others =
    let page : Descriptor = Page address (entry_log2 granule level) (permission_of others) in
    if not (has VALID others) then Invalid else (
    if has_only (VALID + TABLE) 0 others && nat_lt level 3 then Table address else (
    if has_only (BLOCK + TABLE) (AP2 + CONTIGUOUS) others && level == 3 then page else (
    if has_only BLOCK (AP2 + CONTIGUOUS) others && (has_blocks granule level && is_aligned (entry_log2 granule level) address)
    then page else Reserved)))

abbrev pub descriptor_at : (granule level word : ℕ) → Descriptor
descriptor_at granule level word = descriptor_by granule level (address_in granule word) (others_in granule word)

-- a page or block begins within the output's 48 bits, and is of no more than 64
abbrev pub IsWithinOutput : Descriptor → Type 0
IsWithinOutput descriptor = (address log2 : ℕ) (prot : Prot) → descriptor ≡ Page address log2 prot → (address < 2 ^ 48) × (log2 < 64)

-- where a descriptor of a table of `level` leads: `next` is the walk from a frame one level on
abbrev pub followed : (granule : ℕ) → List ℕ → (address level : ℕ) → (next : ℕ → Walked) → Descriptor → Walked
followed granule words address level next Invalid = None
followed granule words address level next Reserved = Alien level
followed granule words address level next (Page page log2 prot) = W.Page (page + address % 2 ^ log2) prot
followed granule words address level next (Table table) =
    if names_frame granule words table then next (frame_beginning granule table) else Alien level

-- the walk from a table with so many tables left to it; after level 3 there is none
abbrev pub walk_from : (granule : ℕ) → List ℕ → (address left frame : ℕ) → Walked
walk_from granule words address zero frame = Alien 3
walk_from granule words address (suc left) frame =
    followed granule words address (3 - left) (walk_from granule words address left)
    (descriptor_at granule (3 - left) (entry_in (index_bits granule) words frame (index_at granule (3 - left) address)))

-- the walk from the root, of input addresses of 48 bits. A root that names no frame, or another level, is alien at the start
-- level
abbrev pub walk : List ℕ → (granule address : ℕ) → Walked
walk words granule address =
    if not (nat_lt (root_frame words) (frames_of (index_bits granule) (length words)) && (root_level words + start_level granule == 3))
    then Alien (start_level granule)
    else (if nat_le (2 ^ 48) address then None
    else walk_from granule words address (4 - start_level granule) (root_frame words))

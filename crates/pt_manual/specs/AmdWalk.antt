-- The walk of AMD tables of I/O pages, version 1.
-- Source: AMD I/O Virtualization Technology (IOMMU) Specification (order number 48882), section "I/O Page Tables for Host
-- Translations" with its figures of a page directory entry and a page translation entry, its table of the next-level field,
-- and its table of page sizes that are coded in the low bits of the address. The mode of a device table entry is here that
-- of the root. Bits that the profile leaves at 0 are reserved here.
use Rattle.std.specs.Prelude.{ℕ, ◌+◌, ◌-◌, ◌*◌, ◌/◌, ◌%◌, ◌^◌, List, length, nat_le, nat_lt, ◌==◌, ◌&&◌, not, true, if◌then◌else◌}
use Rattle.std.specs.Int.{trailing_ones, w64}
use Rattle.pt_model.specs.Words.{frames_of, root_frame, root_level}
use Rattle.pt_manual.specs.EntryBits.{address_of, has, has_only, is_aligned}
use Rattle.pt_manual.specs.NineBitWalk.{Manual, walk_from}
use Rattle.pt_manual.specs.declared.step.Step.{Step}
use Rattle.pt_manual.specs.declared.step.Step.TheVariants.{NotPresent, Reserved, Page, Next}
use Rattle.pt_manual.specs.declared.walked.Walked.{Walked}
use Rattle.pt_manual.specs.declared.walked.Walked.TheVariants.{None, Alien}

-- present, and read and write permission
abbrev pub PR : ℕ
PR = 2 ^ 0

abbrev pub IR : ℕ
IR = 2 ^ 61

abbrev pub IW : ℕ
IW = 2 ^ 62

-- the next-level field in bits 11:9, and the bits that are neither of it nor of the address
abbrev pub next_level : ℕ → ℕ
next_level word = word / 2 ^ 9 % 2 ^ 3

abbrev pub others_in : ℕ → ℕ
others_in word = word - address_of word - next_level word * 2 ^ 9

-- the lowest clear bit of an address at or above bit 12. A page whose size is coded so is twice as large as that bit
abbrev pub lowest_clear : (address : ℕ) → ℕ
lowest_clear address = 12 + trailing_ones w64 (address / 2 ^ 12)

-- an entry of a table of the manual's `level`, by its address, its next level and its other bits: not present, a page of what
-- an entry maps, a page of a coded size from twice that on and below what the next level's entry maps, a pointer, or of no form
abbrev pub entry_at : (level address next bits : ℕ) → Step
entry_at level address next bits =
    let log2 : ℕ = 3 + 9 * level in
    let coded : ℕ = lowest_clear address + 1 in
    if not (has PR bits) then NotPresent else (
    if not (has_only PR (IR + IW) bits) then Reserved else (
    if (next == 0) && (nat_le level 3 && is_aligned log2 address) then Page address log2 (has IR bits) (has IW bits) else (
    if (next == 7) && (nat_le level 3 && (nat_lt log2 coded && nat_lt coded (9 + log2)))
    then Page (address / 2 ^ coded * 2 ^ coded) coded (has IR bits) (has IW bits) else (
    if (next + 1 == level) && nat_le 2 level then Next address (has IR bits) (has IW bits) else Reserved))))

-- the manual's step in a table of its `level`
abbrev pub step_at : (level word : ℕ) → Step
step_at level word = entry_at level (address_of word) (next_level word) (others_in word)

-- the manual numbers the lowest table 1
abbrev pub manual : Manual
manual = record { number = λ level. level + 1; step = step_at }

-- the mode: how many levels the root's table is high
abbrev pub mode : List ℕ → ℕ
mode words = root_level words + 1

-- Modes are from 3 to 6. Input addresses have 12 bits of offset and 9 for each level of the mode, and at most 64; so mode 6
-- has them all, and of its table only the first 128 entries are read. A bad root is alien at level 6
abbrev pub walk : List ℕ → (address : ℕ) → Walked
walk words address =
    if not (nat_lt (root_frame words) (frames_of 9 (length words)) && (nat_le 3 (mode words) && nat_le (mode words) 6))
    then Alien 6
    else (if nat_le (2 ^ (12 + 9 * mode words)) address then None
    else walk_from manual words address (mode words) (root_frame words) true true)

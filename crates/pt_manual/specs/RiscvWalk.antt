-- The walk of RISC-V tables, with the pages of 64 KiB of Svnapot.
-- Source: The RISC-V Instruction Set Manual, Volume II: Privileged Architecture, chapter "Supervisor-Level ISA", sections
-- "Sv39", "Sv48" and "Sv57: Page-Based 39-bit (48-bit, 57-bit) Virtual-Memory System" with their figures of a page table
-- entry, and "Virtual Address Translation Process"; chapter "Svnapot Extension for NAPOT Translation Contiguity" with its
-- table of encodings. Bits that the profile leaves at 0 are reserved here.
use Rattle.std.specs.Prelude.{ℕ, ◌+◌, ◌-◌, ◌*◌, ◌/◌, ◌%◌, ◌^◌, List, nat_le, ◌==◌, ◌&&◌, Bool, not, true, if◌then◌else◌}
use Rattle.pt_manual.specs.EntryBits.{has, has_only, is_aligned}
use Rattle.pt_manual.specs.NineBitWalk.{Manual, walk_by}
use Rattle.pt_manual.specs.declared.step.Step.{Step}
use Rattle.pt_manual.specs.declared.step.Step.TheVariants.{NotPresent, Reserved, Page, Next}
use Rattle.pt_manual.specs.declared.walked.Walked.{Walked}

-- valid, readable, writable, user, accessed, dirty, and contiguous by a power of two; X and G are always 0
abbrev pub V : ℕ
V = 2 ^ 0

abbrev pub R : ℕ
R = 2 ^ 1

abbrev pub W : ℕ
W = 2 ^ 2

abbrev pub U : ℕ
U = 2 ^ 4

abbrev pub A : ℕ
A = 2 ^ 6

abbrev pub D : ℕ
D = 2 ^ 7

abbrev pub N : ℕ
N = 2 ^ 63

-- the physical page number in bits 53:10, and the other bits
abbrev pub number_in : ℕ → ℕ
number_in word = word / 2 ^ 10 % 2 ^ 44

abbrev pub others_in : ℕ → ℕ
others_in word = word - number_in word * 2 ^ 10

-- sixteen pages are one: the low four bits of the page number are 1000
abbrev pub is_sixteen : (address : ℕ) → Bool
is_sixteen address = address % 2 ^ 16 == 2 ^ 15

-- an entry of a table of the manual's `level`, by its address and its other bits: not valid, a pointer, a page of what an
-- entry maps, a page of 64 KiB, or of no form. What is valid may be read
abbrev pub entry_at : (level address bits : ℕ) → Step
entry_at level address bits =
    let log2 : ℕ = 12 + 9 * level in
    if not (has V bits) then NotPresent else (
    if has_only V 0 bits && nat_le 1 level then Next address true true else (
    if has_only (V + R + U + A + D) W bits && is_aligned log2 address then Page address log2 true (has W bits) else (
    if has_only (V + R + U + A + D + N) W bits && (level == 0 && is_sixteen address)
    then Page (address - 2 ^ 15) 16 true (has W bits) else Reserved)))

-- the manual's step in a table of its `level`
abbrev pub step_at : (level word : ℕ) → Step
step_at level word = entry_at level (number_in word * 2 ^ 12) (others_in word)

-- the manual numbers the lowest table 0
abbrev pub manual : Manual
manual = record { number = λ level. level; step = step_at }

-- the lower half of canonical addresses: 12 bits of offset and 9 for each level, less the sign
abbrev pub walk : List ℕ → (levels address : ℕ) → Walked
walk words levels address = walk_by manual words levels (11 + 9 * levels) (levels - 1) address

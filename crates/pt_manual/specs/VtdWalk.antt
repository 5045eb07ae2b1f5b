-- The walk of VT-d second-stage tables.
-- Source: Intel Virtualization Technology for Directed I/O, Architecture Specification (order number D51397), section
-- "Second-Stage Translation" for the walk and section 9.8, "Second-Stage Paging Entries", for the entries: the tables of
-- SS-PML5E, SS-PML4E, SS-PDPE, SS-PDE and SS-PTE. Bits that the profile leaves at 0 are reserved here.
use Rattle.std.specs.Prelude.{ℕ, ◌+◌, ◌*◌, ◌^◌, List, nat_le, ◌==◌, ◌&&◌, ◌||◌, not, if◌then◌else◌}
use Rattle.pt_manual.specs.EntryBits.{has, has_only, is_aligned}
use Rattle.pt_manual.specs.NineBitWalk.{Manual, by_bits, walk_by}
use Rattle.pt_manual.specs.declared.step.Step.{Step}
use Rattle.pt_manual.specs.declared.step.Step.TheVariants.{NotPresent, Reserved, Page, Next}
use Rattle.pt_manual.specs.declared.walked.Walked.{Walked}

-- read, write, and page size
abbrev pub R : ℕ
R = 2 ^ 0

abbrev pub W : ℕ
W = 2 ^ 1

abbrev pub PS : ℕ
PS = 2 ^ 7

-- an entry of a table of the manual's `level`, by its address and its other bits: not present, a page of 4 KiB, a page of
-- 2 MiB or 1 GiB, a pointer, or of no form
abbrev pub entry_at : (level address bits : ℕ) → Step
entry_at level address bits =
    let log2 : ℕ = 3 + 9 * level in
    let page : Step = Page address log2 (has R bits) (has W bits) in
    let next : Step = Next address (has R bits) (has W bits) in
    if not (has R bits || has W bits) then NotPresent else (
    if has_only 0 (R + W) bits && level == 1 then page else (
    if has_only PS (R + W) bits && (nat_le 2 level && (nat_le level 3 && is_aligned log2 address)) then page else (
    if has_only 0 (R + W) bits && nat_le 2 level then next else Reserved)))

-- the manual's step in a table of its `level`
abbrev pub step_at : (level word : ℕ) → Step
step_at = by_bits entry_at

-- the manual numbers the lowest table 1
abbrev pub manual : Manual
manual = record { number = λ level. level + 1; step = step_at }

-- input addresses have 12 bits of offset and 9 for each level
abbrev pub walk : List ℕ → (levels address : ℕ) → Walked
walk words levels address = walk_by manual words levels (12 + 9 * levels) levels address

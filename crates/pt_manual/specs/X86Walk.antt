-- The walk of x86-64 tables.
-- Source: Intel 64 and IA-32 Architectures Software Developer's Manual, volume 3A (order number 253668), chapter "Paging",
-- section "4-Level Paging and 5-Level Paging" with its tables of PML5E, PML4E, PDPTE, PDE and PTE. Bits that the profile
-- leaves at 0 are reserved here.
use Rattle.std.specs.Prelude.{ℕ, ◌+◌, ◌*◌, ◌^◌, List, nat_le, ◌==◌, ◌&&◌, not, true, if◌then◌else◌}
use Rattle.pt_manual.specs.EntryBits.{has, has_only, is_aligned}
use Rattle.pt_manual.specs.NineBitWalk.{Manual, by_bits, walk_by}
use Rattle.pt_manual.specs.declared.step.Step.{Step}
use Rattle.pt_manual.specs.declared.step.Step.TheVariants.{NotPresent, Reserved, Page, Next}
use Rattle.pt_manual.specs.declared.walked.Walked.{Walked}

-- present, R/W (writes are permitted), U/S (user), accessed, dirty, and page size
abbrev pub P : ℕ
P = 2 ^ 0

abbrev pub RW : ℕ
RW = 2 ^ 1

abbrev pub US : ℕ
US = 2 ^ 2

abbrev pub A : ℕ
A = 2 ^ 5

abbrev pub D : ℕ
D = 2 ^ 6

abbrev pub PS : ℕ
PS = 2 ^ 7

-- an entry of a table of the manual's `level`, by its address and its other bits: not present, a page of 4 KiB, a page of
-- 2 MiB or 1 GiB, a pointer, or of no form. What is present may be read
abbrev pub entry_at : (level address bits : ℕ) → Step
entry_at level address bits =
    let log2 : ℕ = 3 + 9 * level in
    let page : Step = Page address log2 true (has RW bits) in
    let next : Step = Next address true (has RW bits) in
    if not (has P bits) then NotPresent else (
    if has_only (P + US + A + D) RW bits && level == 1 then page else (
    if has_only (P + US + A + D + PS) RW bits && (nat_le 2 level && (nat_le level 3 && is_aligned log2 address)) then page else (
    if has_only (P + US + A) RW bits && nat_le 2 level then next else Reserved)))

-- the manual's step in a table of its `level`, 1 being that of PTEs
abbrev pub step_at : (level word : ℕ) → Step
step_at = by_bits entry_at

-- here the lowest table is 1
abbrev pub manual : Manual
manual = record { number = λ level. level + 1; step = step_at }

-- the lower half of canonical addresses: 12 bits of offset and 9 for each level, less the sign
abbrev pub walk : List ℕ → (levels address : ℕ) → Walked
walk words levels address = walk_by manual words levels (11 + 9 * levels) levels address

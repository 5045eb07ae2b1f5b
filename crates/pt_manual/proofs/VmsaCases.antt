-- The descriptors and the walk of VMSAv8-64 tables at numbers worked out by hand, on both sides of each border.
use Rattle.std.proofs.Common.{◌∷◌, ◌++◌, [], refl, ℕ, ◌+◌, ◌-◌, ◌*◌, ◌^◌, List}
use Rattle.std.specs.Prelude.{map}
use Rattle.pt_model.specs.declared.block.Prot.TheVariants.{Read, ReadWrite}
use Rattle.pt_manual.specs.declared.descriptor.Descriptor.TheVariants as D
use Rattle.pt_manual.specs.declared.walked.Walked.TheVariants.{None, Alien, Page}
use Rattle.pt_manual.specs.VmsaWalk.{descriptor_at, walk}
use Rattle.pt_manual.proofs.Cases.{AreAlien, AreAll, AreEqual, ReadsEach, RefusesPointers, space, up, with_each, without_each, zeros}

-- The descriptors. A granule is 12, 14 or 16, and a table is of level 0 to 3.

-- bit 0 alone says whether a descriptor is valid, and AP[2] whether writes are permitted
pub valid : AreEqual (
    (descriptor_at 12 3 0xfffffffffffffffe, D.Invalid) ∷ (descriptor_at 12 1 0x40000f40, D.Invalid)
    ∷ (descriptor_at 12 3 0x40001f43, D.Page 0x40001000 12 ReadWrite) ∷ (descriptor_at 12 3 0x40001fc3, D.Page 0x40001000 12 Read)
    ∷ (descriptor_at 12 2 0x40000fc1, D.Page 0x40000000 21 Read) ∷ [])
valid = refl

-- Contiguous may be set in each page and block, and the address stays that of the entry
pub contiguous : AreEqual (
    (descriptor_at 12 3 0x10000040001f43, D.Page 0x40001000 12 ReadWrite) ∷ (descriptor_at 12 2 0x10000040200fc1, D.Page 0x40200000 21 Read)
    ∷ (descriptor_at 12 1 0x10000040000f41, D.Page 0x40000000 30 ReadWrite)
    ∷ (descriptor_at 14 3 0x10000040004f43, D.Page 0x40004000 14 ReadWrite)
    ∷ (descriptor_at 16 2 0x10000060000f41, D.Page 0x60000000 29 ReadWrite) ∷ [])
contiguous = refl

-- a table above level 3
pub tables : AreEqual (
    (descriptor_at 12 0 0x40001003, D.Table 0x40001000) ∷ (descriptor_at 12 2 0x40001003, D.Table 0x40001000)
    ∷ (descriptor_at 12 3 0x40001003, D.Reserved) ∷ (descriptor_at 14 2 0x40004003, D.Table 0x40004000)
    ∷ (descriptor_at 16 1 0x40010003, D.Table 0x40010000) ∷ (descriptor_at 16 3 0x40010003, D.Reserved) ∷ [])
tables = refl

-- a page in level 3 alone; blocks in levels 1 and 2 of a granule of 4 KiB, and in level 2 of the others
pub no_pages : AreAll D.Reserved (descriptor_at 12 2 0x40000f43 ∷ descriptor_at 12 0 0xf43 ∷ [])
no_pages = refl

pub blocks : AreEqual ((
  map (λ level. descriptor_at 12 level 0x40000f41) (up 1 3),
  D.Page 0x40000000 30 ReadWrite ∷ D.Page 0x40000000 21 ReadWrite ∷ D.Reserved ∷ [],
)
    ∷ (map (λ level. descriptor_at 14 level 0x40000f41) (up 1 3), D.Reserved ∷ D.Page 0x40000000 25 ReadWrite ∷ D.Reserved ∷ [])
    ∷ (map (λ level. descriptor_at 16 level 0x40000f41) (up 1 3), D.Reserved ∷ D.Page 0x40000000 29 ReadWrite ∷ D.Reserved ∷ []) ∷ [])
blocks = refl

pub no_blocks : AreAll D.Reserved (
    descriptor_at 12 0 0xf41 ∷ descriptor_at 14 0 0xf41 ∷ descriptor_at 14 1 0xf41 ∷ descriptor_at 16 1 0xf41 ∷ [])
no_blocks = refl

-- blocks that aren't of their size's alignment
pub unaligned : AreAll D.Reserved (
    with_each (descriptor_at 12 2) 0xf41 (up 12 9) ++ (with_each (descriptor_at 12 1) 0xf41 (up 12 18)
    ++ (with_each (descriptor_at 14 2) 0xf41 (up 14 11) ++ with_each (descriptor_at 16 2) 0xf41 (up 16 13))))
unaligned = refl

-- Every bit of the address.

abbrev in_pages : (granule : ℕ) → Type 0
in_pages granule = ReadsEach (descriptor_at granule 3) 0xf43 (up granule (48 - granule)) (λ k. D.Page (2 ^ k) granule ReadWrite)

abbrev in_tables : (granule : ℕ) → Type 0
in_tables granule = ReadsEach (descriptor_at granule 2) 0x3 (up granule (48 - granule)) (λ k. D.Table (2 ^ k))

abbrev in_blocks : (granule level log2 : ℕ) → Type 0
in_blocks granule level log2 = ReadsEach (descriptor_at granule level) 0xf41 (up log2 (48 - log2)) (λ k. D.Page (2 ^ k) log2 ReadWrite)

pub page_addresses : in_pages 12 × in_pages 14 × in_pages 16
page_addresses = (refl, refl, refl)

pub table_addresses : in_tables 12 × in_tables 14 × in_tables 16
table_addresses = (refl, refl, refl)

pub block_addresses : in_blocks 12 2 21 × in_blocks 12 1 30 × in_blocks 14 2 25 × in_blocks 16 2 29
block_addresses = (refl, refl, refl, refl)

-- AP[1], SH, AF and nG of a page or block are 1
abbrev set : List ℕ
set = 6 ∷ up 8 4

pub pages_lack : AreAll D.Reserved (
    without_each (descriptor_at 12 3) 0x40001f43 set ++ (without_each (descriptor_at 12 3) 0x40001fc3 set
    ++ without_each (descriptor_at 14 3) 0x40004f43 set))
pages_lack = refl

pub blocks_lack : AreAll D.Reserved (
    without_each (descriptor_at 12 2) 0x40000f41 set ++ (without_each (descriptor_at 12 1) 0x40000f41 set
    ++ without_each (descriptor_at 16 2) 0x40000f41 set))
blocks_lack = refl

-- AttrIndx, bit 5, and the bits above the address but Contiguous are 0; so are the bits between the attributes and the
-- address of the greater granules
abbrev others : List ℕ
others = up 2 4 ++ (up 48 4 ++ up 53 11)

pub pages_reserved : AreAll D.Reserved (
    with_each (descriptor_at 12 3) 0x40001f43 others ++ (with_each (descriptor_at 12 3) 0x10000040001f43 others
    ++ (with_each (descriptor_at 14 3) 0x40004f43 (up 12 2 ++ others) ++ with_each (descriptor_at 16 3) 0x40010f43 (up 12 4 ++ others))))
pages_reserved = refl

pub blocks_reserved : AreAll D.Reserved (
    with_each (descriptor_at 12 1) 0x40000f41 others ++ (with_each (descriptor_at 14 2) 0x40000f41 (up 12 2 ++ others)
    ++ with_each (descriptor_at 16 2) 0x40000f41 (up 12 4 ++ others)))
blocks_reserved = refl

-- a table descriptor has no attributes, and no hierarchical ones in bits 63:59
pub tables_reserved : AreAll D.Reserved (
    with_each (descriptor_at 12 1) 0x40001003 (up 2 10 ++ up 48 16) ++ (with_each (descriptor_at 14 1) 0x40004003 (up 2 12 ++ up 48 16)
    ++ with_each (descriptor_at 16 1) 0x40010003 (up 2 14 ++ up 48 16)))
tables_reserved = refl

-- The walk. The descriptor of the one frame of a space, as a table, is 0x100000003. A space of a greater granule has more
-- entries after its first two.

abbrev space_16 : (level first second : ℕ) → List ℕ
space_16 level first second = level ∷ 0 ∷ first ∷ second ∷ zeros 2046

abbrev space_64 : (level first second : ℕ) → List ℕ
space_64 level first second = level ∷ 0 ∷ first ∷ second ∷ zeros 8190

-- pages and blocks: the output has the low bits of the input. An entry of a contiguous group gives its own address, be it
-- that of its part or another
pub sizes : AreEqual (
    (walk (space 3 0x100000003 0x40001f43) 12 0x1fff, Page 0x40001fff ReadWrite)
    ∷ (walk (space 3 0x100000003 0x40001fc3) 12 0x1abc, Page 0x40001abc Read)
    ∷ (walk (space 3 0x100000003 0x40000f41) 12 0x3fffff, Page 0x401fffff ReadWrite)
    ∷ (walk (space 3 0x100000003 0x40000fc1) 12 0x7fffffff, Page 0x7fffffff Read)
    ∷ (walk (space 3 0x100000003 0x10000080011f43) 12 0x1abc, Page 0x80011abc ReadWrite)
    ∷ (walk (space 3 0x100000003 0x1000008001ff43) 12 0x1abc, Page 0x8001fabc ReadWrite) ∷ [])
sizes = refl

pub sizes_16 : AreEqual (
    (walk (space_16 3 0x100000003 0x40004f43) 14 0x7fff, Page 0x40007fff ReadWrite)
    ∷ (walk (space_16 3 0x100000003 0x40000fc1) 14 0x3ffffff, Page 0x41ffffff Read) ∷ [])
sizes_16 = refl

pub sizes_64 : AreEqual (
    (walk (space_64 2 0x100000003 0x40010f43) 16 0x1ffff, Page 0x4001ffff ReadWrite)
    ∷ (walk (space_64 2 0x100000003 0x40000fc1) 16 0x3fffffff, Page 0x5fffffff Read) ∷ [])
sizes_64 = refl

-- descriptors of no form, at the level of their table; a table in the last one, one that is invalid
pub aliens : AreAlien (walk (space 3 0x100000003 0x40000f63) 12) (λ level. 39 - 9 * level) (up 0 4)
aliens = refl

pub last_level : AreEqual (
    (walk (space 3 0x100000003 0x100000003) 12 0x1abc, Alien 3) ∷ (walk (space 3 0x100000003 0x40000f43) 12 0x200000, Alien 2)
    ∷ (walk (space 3 0x100000003 0x40000f43) 12 0x40000000, Alien 1) ∷ (walk (space 3 0x100000003 0x40000f41) 12 0x8000000000, Alien 0)
    ∷ (walk (space 3 0x100000003 0x40001f42) 12 0x1abc, None) ∷ [])
last_level = refl

pub aliens_of_others : AreAll (Alien 1) (
    walk (space_16 3 0x100000003 0x40000f41) 14 0x1000000000 ∷ walk (space_64 2 0x100000003 0x40000f41) 16 0x40000000000 ∷ [])
aliens_of_others = refl

-- tables: below the first frame, past the last
pub pointers : RefusesPointers (λ pointer. walk (space 3 pointer 0) 12 0) (λ address. address + 3) (2 ^ 12) 0
pointers = refl

pub pointers_16 : RefusesPointers (λ pointer. walk (space_16 3 pointer 0) 14 0) (λ address. address + 3) (2 ^ 14) 0
pointers_16 = refl

pub pointers_64 : RefusesPointers (λ pointer. walk (space_64 2 pointer 0) 16 0) (λ address. address + 3) (2 ^ 16) 1
pointers_64 = refl

-- roots: past the frames, of a level too low, of one too high; the root is tested before the address. The walk of a granule of
-- 64 KiB starts at level 1
pub roots : AreAll (Alien 0) (
    walk (11 ∷ 0 ∷ zeros 512) 12 0x1000000000000 ∷ walk (space 2 0x100000003 0) 12 0 ∷ walk (space 4 0x100000003 0) 12 0 ∷ [])
roots = refl

pub roots_64 : AreAll (Alien 1) (walk (space_64 3 0x100000003 0) 16 0 ∷ walk (space_64 1 0x100000003 0) 16 0 ∷ [])
roots_64 = refl

-- the last address, and the first one past it. The first table has two entries with a granule of 16 KiB, and 64 with one of
-- 64 KiB
pub last : AreEqual (
    (walk (3 ∷ 0 ∷ 0 ∷ zeros 511 ++ (0x100001003 ∷ zeros 511 ++ (0x40000f41 ∷ []))) 12 0xffffffffffff, Page 0x7fffffff ReadWrite)
    ∷ (walk (space_16 3 0x40000f41 0x100000003) 14 0x801000000abc, Page 0x40000abc ReadWrite)
    ∷ (walk (2 ∷ 0 ∷ 0x40000f41 ∷ zeros 62 ++ (0x100000003 ∷ zeros 8128)) 16 0xfc0000000abc, Page 0x40000abc ReadWrite) ∷ [])
last = refl

pub past : AreAll None (
    walk (space 3 0x100000003 0x40001f43) 12 0x1000000000000 ∷ walk (space_16 3 0x100000003 0x40004f43) 14 0x1000000000000
    ∷ walk (space_64 2 0x100000003 0x40010f43) 16 0x1000000000000 ∷ [])
past = refl

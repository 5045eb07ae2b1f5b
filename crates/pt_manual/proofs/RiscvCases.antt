-- The step and the walk of RISC-V tables at numbers worked out by hand, on both sides of each border.
use Rattle.std.proofs.Common.{◌≡◌, ◌∷◌, ◌++◌, [], refl, ℕ, ◌+◌, ◌-◌, ◌*◌, ◌/◌, ◌^◌, List, true, false}
use Rattle.std.specs.Prelude.{map}
use Rattle.pt_model.specs.declared.block.Prot.TheVariants.{Read, ReadWrite}
use Rattle.pt_manual.specs.declared.step.Step.TheVariants as S
use Rattle.pt_manual.specs.declared.walked.Walked.TheVariants.{None, Alien, Page}
use Rattle.pt_manual.specs.RiscvWalk.{step_at, walk}
use Rattle.pt_manual.proofs.Cases.{AreAlien, AreAll, AreEqual, ReadsEach, RefusesPointers, RefusesRoots, space, up, with_each, without_each, zeros}

-- The step. A page number n stands at n * 2 ^ 10: that of byte 0x40001000 is 0x10000400.

-- V alone says whether an entry is valid, and W whether writes are permitted; W without R is of no form
pub valid : AreEqual (
    (step_at 0 0xfffffffffffffffe, S.NotPresent) ∷ (step_at 2 0x100004d6, S.NotPresent) ∷ (step_at 0 0x100004d5, S.Reserved)
    ∷ (step_at 0 0x100004d3, S.Page 0x40001000 12 true false) ∷ (step_at 0 0x100004d7, S.Page 0x40001000 12 true true) ∷ [])
valid = refl

-- a pointer in every table but the lowest
pub pointers : map (λ level. step_at level 0x10000401) (up 0 5) ≡ S.Reserved ∷ map (λ level. S.Next 0x40001000 true true) (up 1 4)
pointers = refl

-- a page of each level, of its alignment
pub pages : AreEqual (
    (step_at 1 0x100000d7, S.Page 0x40000000 21 true true) ∷ (step_at 2 0x100000d3, S.Page 0x40000000 30 true false)
    ∷ (step_at 3 0x20000000d7, S.Page 0x8000000000 39 true true) ∷ (step_at 4 0x400000000000d7, S.Reserved)
    ∷ (step_at 4 0xd7, S.Page 0 48 true true) ∷ [])
pages = refl

pub unaligned : AreAll S.Reserved (
    with_each (step_at 1) 0xd7 (up 10 9) ++ (with_each (step_at 2) 0xd7 (up 10 18) ++ with_each (step_at 3) 0xd7 (up 10 27)))
unaligned = refl

-- every bit of the page number, in a page of each level and in a pointer
abbrev aligned : (level : ℕ) → Type 0
aligned level = ReadsEach (step_at level) 0xd7 (up (10 + 9 * level) (44 - 9 * level)) (λ k. S.Page (4 * 2 ^ k) (12 + 9 * level) true true)

pub page_addresses : aligned 0 × aligned 1 × aligned 2 × aligned 3
page_addresses = (refl, refl, refl, refl)

pub pointer_addresses : ReadsEach (step_at 2) 0x1 (up 10 44) (λ k. S.Next (4 * 2 ^ k) true true)
pointer_addresses = refl

-- sixteen pages as one: the low four bits of the page number are 1000, in the lowest table alone
pub sixteen : AreEqual (
    (step_at 0 0x80000000200060d7, S.Page 0x80010000 16 true true) ∷ (step_at 0 0x80000000200060d3, S.Page 0x80010000 16 true false)
    ∷ (step_at 0 0x200060d7, S.Page 0x80018000 12 true true) ∷ (step_at 1 0x80000000200060d7, S.Reserved)
    ∷ (step_at 1 0x8000000020006001, S.Reserved) ∷ [])
sixteen = refl

pub not_sixteen : AreAll S.Reserved (
    with_each (step_at 0) 0x80000000200040d7 (up 10 3) ++ with_each (step_at 0) 0x80000000200060d7 (up 10 3))
not_sixteen = refl

-- U, A and D of a page are 1; X, G, bits 9:8 and 62:54 of every form are 0, and U, A and D of a pointer
abbrev set : List ℕ
set = 4 ∷ 6 ∷ 7 ∷ []

pub pages_lack : AreAll S.Reserved (
    without_each (step_at 0) 0x100004d7 set ++ (without_each (step_at 2) 0x100000d7 set ++ without_each (step_at 0) 0x80000000200060d7 set))
pages_lack = refl

abbrev others : List ℕ
others = 3 ∷ 5 ∷ 8 ∷ 9 ∷ up 54 9

pub reserved : AreAll S.Reserved (
    with_each (step_at 0) 0x100004d7 others ++ (with_each (step_at 1) 0x100000d7 (63 ∷ others)
    ++ (with_each (step_at 0) 0x80000000200060d7 others ++ with_each (step_at 1) 0x10000401 (2 ∷ 4 ∷ 6 ∷ 7 ∷ 63 ∷ others))))
reserved = refl

-- The walk. The pointer to the one frame of a space, at byte 0x100000000, is 0x40000001.

-- pages: the output has the low bits of the input; a page of 64 KiB gives the low four bits of the page from the address
pub sizes : AreEqual (
    (walk (space 2 0x40000001 0x100004d7) 3 0x1fff, Page 0x40001fff ReadWrite)
    ∷ (walk (space 2 0x40000001 0x100004d3) 3 0x1abc, Page 0x40001abc Read)
    ∷ (walk (space 2 0x40000001 0x100000d7) 3 0x3fffff, Page 0x401fffff ReadWrite)
    ∷ (walk (space 3 0x40000001 0x20000000d3) 4 0xffffffffff, Page 0xffffffffff Read)
    ∷ (walk (2 ∷ 0 ∷ 0x40000001 ∷ zeros 30 ++ (0x80000000200060d7 ∷ zeros 480)) 3 0x1fabc, Page 0x8001fabc ReadWrite) ∷ [])
sizes = refl

-- entries of no form, at the level of their table; a pointer in the lowest; one that isn't valid
pub aliens : AreAlien (walk (space 2 0x40000001 0x100004d5) 3) (λ level. 12 + 9 * level) (up 0 3)
aliens = refl

pub lowest : AreEqual (
    (walk (space 2 0x40000001 0x10000401) 3 0x1abc, Alien 0) ∷ (walk (space 2 0x40000001 0x100004d7) 3 0x200000, Alien 1)
    ∷ (walk (space 2 0x40000001 0x100004d7) 3 0x40000000, Alien 2) ∷ (walk (space 2 0x40000001 0x100004d6) 3 0x1abc, None) ∷ [])
lowest = refl

-- pointers below the first frame and past the last, and roots
pub bad_pointers : RefusesPointers (λ pointer. walk (space 2 pointer 0) 3 0) (λ address. address / 4 + 1) (2 ^ 12) 2
bad_pointers = refl

pub roots : RefusesRoots walk 0x40000001 3 0x4000000000 (λ levels. levels - 1)
roots = (refl, refl)

-- the last address of the lower half, and the first one past it
pub last : walk (2 ∷ 0 ∷ zeros 255 ++ (0x200000d3 ∷ zeros 256)) 3 0x3fffffffff ≡ Page 0xbfffffff Read
last = refl

pub past : map (λ levels. walk (space (levels - 1) 0x40000001 0x100004d7) levels (2 ^ (11 + 9 * levels))) (up 3 3) ≡ None ∷ None ∷ None ∷ []
past = refl

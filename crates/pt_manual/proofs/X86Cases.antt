-- The step and the walk of x86-64 tables at numbers worked out by hand, on both sides of each border.
use Rattle.std.proofs.Common.{◌∷◌, ◌++◌, [], refl, ℕ, ◌+◌, ◌*◌, ◌^◌, List, true, false}
use Rattle.pt_model.specs.declared.block.Prot.TheVariants.{Read, ReadWrite}
use Rattle.pt_manual.specs.declared.step.Step.TheVariants as S
use Rattle.pt_manual.specs.declared.walked.Walked.{Walked}
use Rattle.pt_manual.specs.declared.walked.Walked.TheVariants.{None, Alien, Page}
use Rattle.pt_manual.specs.X86Walk.{step_at, walk}
use Rattle.pt_manual.proofs.Cases.{AreAlien, AreAll, AreEqual, AreSized, RefusesPointers, RefusesRoots, space, up, with_each, without_each, zeros}

-- The step.

-- P alone says whether an entry is present, and R/W whether writes are permitted
pub present : AreEqual (
    (step_at 1 0x7ffffffffffffffe, S.NotPresent) ∷ (step_at 4 0x40001066, S.NotPresent)
    ∷ (step_at 1 0x40001065, S.Page 0x40001000 12 true false) ∷ (step_at 1 0x40001067, S.Page 0x40001000 12 true true)
    ∷ (step_at 3 0x400000e5, S.Page 0x40000000 30 true false) ∷ (step_at 5 0x40001025, S.Next 0x40001000 true false) ∷ [])
present = refl

-- PS, the levels and the address bits
pub sized : AreSized step_at 0x67 0x27
sized = (refl, refl, refl, refl, refl, refl, refl)

-- a pointer is none of a page, and a page none of a pointer
pub pages_and_pointers : AreAll S.Reserved (step_at 1 0x40001027 ∷ step_at 2 0x40001067 ∷ [])
pages_and_pointers = refl

-- U/S, A and D of a page, and U/S and A of a pointer, are 1
pub pages_lack : AreAll S.Reserved (
    without_each (step_at 1) 0x40001067 (2 ∷ 5 ∷ 6 ∷ []) ++ (without_each (step_at 2) 0x400000e7 (2 ∷ 5 ∷ 6 ∷ [])
    ++ without_each (step_at 3) 0x400000e7 (2 ∷ 5 ∷ 6 ∷ [])))
pages_lack = refl

pub pointers_lack : AreAll S.Reserved (without_each (step_at 2) 0x40001027 (2 ∷ 5 ∷ []) ++ without_each (step_at 5) 0x40001027 (2 ∷ 5 ∷ []))
pointers_lack = refl

-- the bits that no form has: those of pages, and of pointers
abbrev others : List ℕ
others = 3 ∷ 4 ∷ up 8 4 ++ up 52 12

pub pages_reserved : AreAll S.Reserved (
    with_each (step_at 1) 0x40001067 (7 ∷ others) ++ (with_each (step_at 2) 0x400000e7 others ++ with_each (step_at 3) 0x400000e7 others))
pages_reserved = refl

pub pointers_reserved : AreAll S.Reserved (
    with_each (step_at 2) 0x40001027 (6 ∷ others) ++ with_each (step_at 5) 0x40001027 (6 ∷ 7 ∷ others))
pointers_reserved = refl

-- The walk. Entry 0 of the one frame of a space, 0x100000027, points to the frame itself.
abbrev walk_to : (word address : ℕ) → Walked
walk_to word address = walk (space 3 0x100000027 word) 4 address

-- sizes: the output has the low bits of the input. An entry that isn't present
pub sizes : AreEqual (
    (walk_to 0x40001067 0x1fff, Page 0x40001fff ReadWrite) ∷ (walk_to 0x400000e7 0x3fffff, Page 0x401fffff ReadWrite)
    ∷ (walk_to 0x800000e5 0x7fffffff, Page 0xbfffffff Read) ∷ (walk_to 0x40001066 0x1abc, None) ∷ [])
sizes = refl

-- permissions along the way: what one pointer takes away, no later one gives back
pub permissions : AreEqual (
    (walk_to 0x40001065 0x1abc, Page 0x40001abc Read)
    ∷ (walk (space 3 0x100000025 0x40001067) 4 0x1abc, Page 0x40001abc Read)
    ∷ (walk (3 ∷ 0 ∷ 0x100000027 ∷ 0x100000025 ∷ 0x40001067 ∷ zeros 509) 4 0x8000002abc, Page 0x40001abc Read) ∷ [])
permissions = refl

-- entries of no form, at the level of their table
pub aliens : AreAlien (walk (space 4 0x100000027 0x10e7) 5) (λ level. 3 + 9 * level) (up 1 5)
aliens = refl

-- pointers below the first frame and past the last, and roots
pub pointers : RefusesPointers (λ pointer. walk (space 3 pointer 0) 4 0) (λ address. address + 0x27) (2 ^ 12) 4
pointers = refl

pub roots : RefusesRoots walk 0x100000027 4 0x800000000000 (λ levels. levels)
roots = (refl, refl)

-- the last address of the lower half, and the first one past it
abbrev at_the_end : (level middle last : ℕ) → List ℕ
at_the_end level middle last = level ∷ 0 ∷ zeros 255 ++ (middle ∷ zeros 255 ++ (last ∷ []))

pub borders : AreEqual (
    (walk (at_the_end 3 0x100000027 0x800000e5) 4 0x7fffffffffff, Page 0xbfffffff Read)
    ∷ (walk (space 3 0x100000027 0x40001067) 4 0x800000000000, None)
    ∷ (walk (at_the_end 4 0x100000027 0x100000027) 5 0xffffffffffffff, Alien 1)
    ∷ (walk (space 4 0x100000027 0x40001067) 5 0x100000000000000, None) ∷ [])
borders = refl

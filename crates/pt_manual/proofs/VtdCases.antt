-- The step and the walk of VT-d tables at numbers worked out by hand, on both sides of each border.
use Rattle.std.proofs.Common.{◌≡◌, ◌∷◌, ◌++◌, [], refl, ℕ, ◌+◌, ◌*◌, ◌^◌, List, true, false}
use Rattle.pt_model.specs.declared.block.Prot.TheVariants.{Read, ReadWrite}
use Rattle.pt_manual.specs.declared.step.Step.TheVariants as S
use Rattle.pt_manual.specs.declared.walked.Walked.TheVariants.{None, Alien, Page}
use Rattle.pt_manual.specs.VtdWalk.{step_at, walk}
use Rattle.pt_manual.proofs.Cases.{AreAlien, AreAll, AreEqual, AreSized, RefusesPointers, RefusesRoots, space, up, with_each, zeros}

-- The step.

-- neither R nor W is not present, whatever else is set; either is enough
pub present : AreEqual (
    (step_at 1 0x7ffffffffffffffc, S.NotPresent) ∷ (step_at 3 0x84, S.NotPresent)
    ∷ (step_at 1 0x40001001, S.Page 0x40001000 12 true false) ∷ (step_at 1 0x40001002, S.Page 0x40001000 12 false true)
    ∷ (step_at 1 0x40001003, S.Page 0x40001000 12 true true) ∷ (step_at 3 0x40000081, S.Page 0x40000000 30 true false)
    ∷ (step_at 2 0x40001001, S.Next 0x40001000 true false) ∷ (step_at 5 0x40001002, S.Next 0x40001000 false true) ∷ [])
present = refl

-- PS, the levels and the address bits
pub sized : AreSized step_at 0x3 0x3
sized = (refl, refl, refl, refl, refl, refl, refl)

-- the bits that no form has: those of a page, of the large ones, and of pointers
abbrev others : List ℕ
others = up 2 5 ++ (up 8 4 ++ up 52 12)

pub reserved : AreAll S.Reserved (
    with_each (step_at 1) 0x40001003 (7 ∷ others) ++ (with_each (step_at 2) 0x40000083 others ++ (with_each (step_at 3) 0x40000083 others
    ++ (with_each (step_at 2) 0x40001003 others ++ with_each (step_at 5) 0x40001003 (7 ∷ others)))))
reserved = refl

-- The walk.

-- permissions along the way: what one pointer takes away, no later one gives back
pub permissions : AreEqual (
    (walk (space 2 0x100000003 0) 3 0xabc, Page 0x100000abc ReadWrite)
    ∷ (walk (space 2 0x100000001 0x40001003) 3 0x1abc, Page 0x40001abc Read)
    ∷ (walk (space 2 0x100000003 0x40001001) 3 0x1abc, Page 0x40001abc Read)
    ∷ (walk (space 2 0x100000002 0x40001003) 3 0x1abc, Alien 1)
    ∷ (walk (space 2 0x100000003 0x40000082) 3 0x200000, Alien 2)
    ∷ (walk (2 ∷ 0 ∷ 0x100000003 ∷ 0x100000002 ∷ 0x40001003 ∷ zeros 509) 3 0x40002abc, Alien 1)
    ∷ (walk (2 ∷ 0 ∷ 0x100000003 ∷ 0x100000001 ∷ 0x40001003 ∷ zeros 509) 3 0x40002abc, Page 0x40001abc Read)
    ∷ (walk (space 2 0x100000001 0x40001002) 3 0x1abc, None) ∷ [])
permissions = refl

-- sizes: the output has the low bits of the input
pub sizes : AreEqual (
    (walk (space 2 0x100000003 0x40001001) 3 0x1fff, Page 0x40001fff Read)
    ∷ (walk (space 2 0x100000003 0x40000083) 3 0x3fffff, Page 0x401fffff ReadWrite)
    ∷ (walk (space 2 0x100000003 0x80000081) 3 0x7fffffff, Page 0xbfffffff Read) ∷ [])
sizes = refl

-- entries of no form, at the level of their table; and one that isn't present
pub aliens : AreAlien (walk (space 4 0x100000003 0x1083) 5) (λ level. 3 + 9 * level) (up 1 5)
aliens = refl

pub no_entry : walk (space 2 0x5 0) 3 0x40000000 ≡ None
no_entry = refl

-- pointers to the last frame, below the first and past the last, and roots
pub to_the_last : walk (2 ∷ zeros 2 ++ (0x100001003 ∷ zeros 511 ++ (0x80000081 ∷ zeros 511))) 3 0xabc ≡ Page 0x80000abc Read
to_the_last = refl

pub pointers : RefusesPointers (λ pointer. walk (space 2 pointer 0) 3 0) (λ address. address + 3) (2 ^ 12) 3
pointers = refl

pub roots : RefusesRoots walk 0x100000003 3 0x8000000000 (λ levels. levels)
roots = (refl, refl)

-- the last address of the input, and the first one past it
abbrev at_the_end : (level word : ℕ) → List ℕ
at_the_end level word = level ∷ 0 ∷ zeros 511 ++ (word ∷ [])

pub borders : AreEqual (
    (walk (at_the_end 2 0x80000081) 3 0x7fffffffff, Page 0xbfffffff Read) ∷ (walk (space 2 0x80000081 0) 3 0x8000000000, None)
    ∷ (walk (at_the_end 3 0x100000003) 4 0xffffffffffff, Page 0x100000fff ReadWrite)
    ∷ (walk (space 3 0x100000003 0) 4 0x1000000000000, None)
    ∷ (walk (at_the_end 4 0x100000003) 5 0x1ffffffffffffff, Page 0x100000fff ReadWrite)
    ∷ (walk (space 4 0x100000003 0) 5 0x200000000000000, None) ∷ [])
borders = refl

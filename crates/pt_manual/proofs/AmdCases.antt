-- The step and the walk of AMD tables at numbers worked out by hand, on both sides of each border.
use Rattle.std.proofs.Common.{◌≡◌, ◌∷◌, ◌++◌, [], refl, ℕ, ◌+◌, ◌*◌, ◌-◌, ◌^◌, List, true, false}
use Rattle.std.specs.Prelude.{map}
use Rattle.std.specs.Int.Count.{count_trailing_zeros}
use Rattle.pt_model.specs.declared.block.Prot.TheVariants.{Read, ReadWrite}
use Rattle.pt_manual.specs.declared.step.Step.{Step}
use Rattle.pt_manual.specs.declared.step.Step.TheVariants as S
use Rattle.pt_manual.specs.declared.walked.Walked.TheVariants.{None, Alien, Page}
use Rattle.pt_manual.specs.AmdWalk.{lowest_clear, step_at, walk}
use Rattle.pt_manual.proofs.Cases.{AreAll, AreEqual, ReadsEach, RefusesPointers, space, up, with_each, zeros}

-- The step. PR, IR and IW are 0x6000000000000001; next level n is n * 0x200.

-- PR alone says whether an entry is present
pub absent : AreAll S.NotPresent (step_at 1 0xfffffffffffffffe ∷ step_at 6 0x6000000040001a00 ∷ [])
absent = refl

-- IR and IW say what is permitted, of a page, of a page of a coded size and of a pointer
pub permissions : AreEqual (
    (step_at 1 0x2000000040001001, S.Page 0x40001000 12 true false) ∷ (step_at 1 0x4000000040001001, S.Page 0x40001000 12 false true)
    ∷ (step_at 1 0x6000000040001001, S.Page 0x40001000 12 true true) ∷ (step_at 1 0x40001001, S.Page 0x40001000 12 false false)
    ∷ (step_at 1 0x2000000040000e01, S.Page 0x40000000 13 true false) ∷ (step_at 1 0x4000000040000e01, S.Page 0x40000000 13 false true)
    ∷ (step_at 2 0x2000000040001201, S.Next 0x40001000 true false) ∷ (step_at 6 0x4000000040001a01, S.Next 0x40001000 false true) ∷ [])
unfolding count_trailing_zeros
permissions = refl

-- each next level at each level: a page of what an entry maps, a pointer to the table below, or no form
abbrev nexts : (level : ℕ) → List Step
nexts level = map (λ n. step_at level (0x6000000040000001 + n * 2 ^ 9)) (up 0 7)

abbrev aliens : ℕ → List Step
aliens n = map (λ k. S.Reserved) (up 0 n)

abbrev below : Step
below = S.Next 0x40000000 true true

pub next_levels : AreEqual (
    (nexts 1, S.Page 0x40000000 12 true true ∷ aliens 6)
    ∷ (nexts 2, S.Page 0x40000000 21 true true ∷ below ∷ aliens 5)
    ∷ (nexts 3, S.Page 0x40000000 30 true true ∷ S.Reserved ∷ below ∷ aliens 4)
    ∷ (nexts 4, aliens 3 ++ (below ∷ aliens 3)) ∷ (nexts 5, aliens 4 ++ (below ∷ aliens 2))
    ∷ (nexts 6, aliens 5 ++ (below ∷ aliens 1)) ∷ [])
next_levels = refl

-- no page above level 3, wherever it lies
pub none_of_0_in_4 : step_at 4 0x6000000000000001 ≡ S.Reserved
none_of_0_in_4 = refl

-- pages that aren't of their size's alignment
pub unaligned : AreAll S.Reserved (
    with_each (step_at 2) 0x6000000000000001 (up 12 9) ++ with_each (step_at 3) 0x6000000000000001 (up 12 18))
unaligned = refl

-- every address bit, in a page of each level, a pointer, and a page of a coded size
abbrev aligned : (level : ℕ) → Type 0
aligned level =
    let log2 : ℕ = 3 + 9 * level in
    ReadsEach (step_at level) 0x6000000000000001 (up log2 (52 - log2)) (λ k. S.Page (2 ^ k) log2 true true)

pub page_addresses : aligned 1 × aligned 2 × aligned 3
page_addresses = (refl, refl, refl)

pub pointer_addresses : ReadsEach (step_at 4) 0x6000000000000601 (up 12 40) (λ k. S.Next (2 ^ k) true true)
pointer_addresses = refl

pub coded_addresses : ReadsEach (step_at 1) 0x6000000000000e01 (up 13 39) (λ k. S.Page (2 ^ k) 13 true true)
unfolding count_trailing_zeros
coded_addresses = refl

-- coded sizes: the lowest clear bit is half of the page. A page of 2 ^ n bytes has bits n - 2 down to 12 set
pub lowest_clears : map lowest_clear (0 ∷ 0x1000 ∷ 0x2000 ∷ 0x3000 ∷ 0xfffffffff000 ∷ 0xffffffffff000 ∷ [])
    ≡ 12 ∷ 13 ∷ 12 ∷ 14 ∷ 48 ∷ 52 ∷ []
unfolding count_trailing_zeros
lowest_clears = refl

abbrev coded : (level n : ℕ) → Step
coded level n = step_at level (2 ^ 40 + (2 ^ (n - 1) - 2 ^ 12) + 0x6000000000000e01)

abbrev of_size : ℕ → Step
of_size n = S.Page (2 ^ 40) n true true

-- from 8 KiB to 1 MiB in level 1, from 4 MiB to 512 MiB in level 2, from 2 GiB to 256 GiB in level 3; none larger or smaller,
-- nor that of what an entry maps
pub coded_sizes : AreEqual (
    (map (coded 1) (up 13 9), map of_size (up 13 8) ++ (S.Reserved ∷ []))
    ∷ (map (coded 2) (up 20 11), S.Reserved ∷ S.Reserved ∷ map of_size (up 22 8) ++ (S.Reserved ∷ []))
    ∷ (map (coded 3) (up 29 11), S.Reserved ∷ S.Reserved ∷ map of_size (up 31 8) ++ (S.Reserved ∷ [])) ∷ [])
unfolding count_trailing_zeros
coded_sizes = refl

-- none above, of any size
pub coded_above : AreAll S.Reserved (map (coded 4) (up 13 28) ++ map (coded 6) (up 13 28))
coded_above = refl

-- every bit of the address is set
pub all_ones : step_at 3 0x600ffffffffffe01 ≡ S.Reserved
unfolding count_trailing_zeros
all_ones = refl

-- the bits that no form has: those of a page, a large one, a coded one, and a pointer
abbrev others : List ℕ
others = up 1 8 ++ (up 52 9 ++ (63 ∷ []))

pub reserved : AreAll S.Reserved (
    with_each (step_at 1) 0x6000000040001001 others ++ (with_each (step_at 2) 0x6000000040000001 others
    ++ (with_each (step_at 1) 0x6000000040000e01 others ++ with_each (step_at 6) 0x6000000040001a01 others)))
reserved = refl

-- The walk. The one frame of these spaces is at byte 0x100000000. Each level needs its own next level, so entry k of the
-- frame points from level k + 2 down, and entry 0 is the last: addresses name the entries 4, 3, 2 and 1 on the way.
abbrev tables : (level : ℕ) → (last : ℕ) → List ℕ
tables level last =
    level ∷ 0 ∷ last ∷ 0x6000000100000201 ∷ 0x6000000100000401 ∷ 0x6000000100000601 ∷ 0x6000000100000801 ∷ 0x6000000100000a01 ∷ zeros 506

-- the ways down from each root to entry 0 of level 1, 2 and 3: 3 levels by entries 2 and 1, and so on
pub sizes : AreEqual (
    (walk (tables 2 0x6000000040001001) 0x80200fff, Page 0x40001fff ReadWrite)
    ∷ (walk (tables 3 0x2000000040001001) 0x18080200abc, Page 0x40001abc Read)
    ∷ (walk (tables 4 0x6000000040001001) 0x4018080200abc, Page 0x40001abc ReadWrite)
    ∷ (walk (tables 5 0x6000000040001001) 0xa04018080200abc, Page 0x40001abc ReadWrite)
    ∷ (walk (tables 2 0x6000000040000001) 0x801fffff, Page 0x401fffff ReadWrite)
    ∷ (walk (tables 2 0x2000000040000001) 0x3fffffff, Page 0x7fffffff Read) ∷ [])
sizes = refl

-- a coded page gives its own low bits from the address, from whichever of its entries
pub coded_pages : AreEqual (
    (walk (tables 2 0x6000000040000e01) 0x80200abc, Page 0x40000abc ReadWrite)
    ∷ (walk (2 ∷ 0 ∷ 0x6000000100000201 ∷ 0x6000000040000e01 ∷ 0x6000000100000401 ∷ zeros 509) 0x80001abc, Page 0x40001abc ReadWrite) ∷ [])
unfolding count_trailing_zeros
coded_pages = refl

-- permissions along the way: what one pointer takes away, no later one gives back
abbrev by_pointers : (third second first : ℕ) → List ℕ
by_pointers third second first = 2 ∷ 0 ∷ first ∷ second ∷ third ∷ zeros 509

pub permissions_of_walks : AreEqual (
    (walk (by_pointers 0x2000000100000401 0x6000000100000201 0x6000000040001001) 0x80200abc, Page 0x40001abc Read)
    ∷ (walk (by_pointers 0x6000000100000401 0x2000000100000201 0x6000000040001001) 0x80200abc, Page 0x40001abc Read)
    ∷ (walk (by_pointers 0x6000000100000401 0x6000000100000201 0x2000000040001001) 0x80200abc, Page 0x40001abc Read)
    ∷ (walk (by_pointers 0x4000000100000401 0x6000000100000201 0x6000000040001001) 0x80200abc, Alien 1)
    ∷ (walk (by_pointers 0x6000000100000401 0x6000000100000201 0x4000000040000001) 0x80000abc, Alien 2)
    ∷ (walk (by_pointers 0x2000000100000401 0x4000000100000201 0x6000000040001001) 0x80200abc, None)
    ∷ (walk (by_pointers 0x6000000100000401 0x6000000100000201 0x40001001) 0x80200abc, None) ∷ [])
permissions_of_walks = refl

-- entries of no form, at the level of their table; one that isn't present
pub aliens_of_walks : AreEqual (
    (walk (tables 2 0x6000000040001201) 0x80200abc, Alien 1) ∷ (walk (tables 2 0x6000000040001001) 0x80000abc, Alien 2)
    ∷ (walk (tables 2 0x6000000040001001) 0xabc, Alien 3) ∷ (walk (tables 3 0x6000000040000001) 0xabc, Alien 4)
    ∷ (walk (tables 4 0x6000000040000001) 0xabc, Alien 5) ∷ (walk (tables 5 0x6000000040000001) 0xabc, Alien 6)
    ∷ (walk (tables 2 0x6000000040001000) 0x80200abc, None) ∷ [])
aliens_of_walks = refl

-- pointers: to the last frame, below the first, past the last
pub to_the_last : walk (2 ∷ zeros 2 ++ (0x6000000100001401 ∷ zeros 511 ++ (0x6000000080000001 ∷ zeros 511))) 0xabc
    ≡ Page 0x80000abc ReadWrite
to_the_last = refl

pub pointers : RefusesPointers (λ pointer. walk (space 2 pointer 0) 0) (λ address. address + 0x6000000000000401) (2 ^ 12) 3
pointers = refl

-- roots: past the frames, of each mode that there isn't; the root is tested before the address
pub roots : AreAll (Alien 6) (
    walk (10 ∷ 0 ∷ zeros 512) 0x8000000000 ∷ walk (tables 0 0x6000000040001001) 0 ∷ walk (tables 1 0x6000000040001001) 0x200000
    ∷ walk (tables 6 0x6000000040001001) 0 ∷ walk (tables 7 0x6000000040001001) 0 ∷ [])
roots = refl

-- the last address of each mode, and the first one past it; mode 6 has every address
abbrev with_entry : (level number : ℕ) → List ℕ
with_entry level number = level ∷ 0 ∷ zeros number ++ (0x2000000080000001 ∷ zeros (511 - number))

pub last : AreEqual (
    (walk (with_entry 2 511) 0x7fffffffff, Page 0xbfffffff Read) ∷ (walk (with_entry 3 511) 0xffffffffffff, Alien 4)
    ∷ (walk (with_entry 4 511) 0x1ffffffffffffff, Alien 5) ∷ (walk (with_entry 5 127) 0xffffffffffffffff, Alien 6) ∷ [])
last = refl

pub past : map (λ mode. walk (with_entry (mode - 1) 0) (2 ^ (12 + 9 * mode))) (up 3 3) ≡ None ∷ None ∷ None ∷ []
past = refl

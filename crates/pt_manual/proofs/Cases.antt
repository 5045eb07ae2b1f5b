-- What the tables of cases share: tables of equal sides, words that differ in one bit, spaces of one frame, and the cases of
-- manuals whose entries have PS.
use Rattle.std.proofs.Common.{◌≡◌, ℕ, zero, suc, ◌+◌, ◌-◌, ◌^◌, List, [], ◌∷◌, ◌++◌, true}
use Rattle.std.specs.Prelude.{map}
use Rattle.pt_manual.specs.declared.step.Step.{Step}
use Rattle.pt_manual.specs.declared.step.Step.TheVariants as S
use Rattle.pt_manual.specs.declared.walked.Walked.{Walked}
use Rattle.pt_manual.specs.declared.walked.Walked.TheVariants.{Alien}

-- a table of cases: each left side is its right side
abbrev pub AreEqual : {A : Type 0} → List (A × A) → Type 0
AreEqual cases = map (λ c. c.0) cases ≡ map (λ c. c.1) cases

-- each of a list is `a`
abbrev pub AreAll : {A : Type 0} → A → List A → Type 0
AreAll a list = list ≡ map (λ x. a) list

-- the numbers from `first` on
abbrev pub up : (first count : ℕ) → List ℕ
up first zero = []
up first (suc n) = first ∷ up (suc first) n

-- what is read at a word with each of these bits set, or cleared, in turn
abbrev pub with_each : {A : Type 0} → (ℕ → A) → (word : ℕ) → List ℕ → List A
with_each step word bits = map (λ k. step (word + 2 ^ k)) bits

abbrev pub without_each : {A : Type 0} → (ℕ → A) → (word : ℕ) → List ℕ → List A
without_each step word bits = map (λ k. step (word - 2 ^ k)) bits

-- with each of these bits set, `step` reads what `answer` says
abbrev pub ReadsEach : {A : Type 0} → (step : ℕ → A) → (word : ℕ) → List ℕ → (answer : ℕ → A) → Type 0
ReadsEach step word bits answer = with_each step word bits ≡ map answer bits

abbrev pub zeros : ℕ → List ℕ
zeros zero = []
zeros (suc n) = 0 ∷ zeros n

-- a space of one frame whose root is of this level; its entries 0 and 1 are given. Where entry 0 points to the table
-- itself, entry 1 is read in the table of the level that the address says.
abbrev pub space : (level first second : ℕ) → List ℕ
space level first second = level ∷ 0 ∷ first ∷ second ∷ zeros 510

-- a walk meets a strange entry at each level: that of the address in which the bit of entry 1 at this level is set alone
abbrev pub AreAlien : (walk : ℕ → Walked) → (log2 : ℕ → ℕ) → (levels : List ℕ) → Type 0
AreAlien walk log2 levels = map (λ level. walk (2 ^ log2 level)) levels ≡ map Alien levels

-- a pointer below the first frame, and one past the only one, is alien at the table that it stands in
abbrev pub RefusesPointers : (walk : (pointer : ℕ) → Walked) → (pointer_to : ℕ → ℕ) → (bytes level : ℕ) → Type 0
RefusesPointers walk pointer_to bytes level =
    AreAll (Alien level) (walk (pointer_to (2 ^ 32 - bytes)) ∷ walk (pointer_to (2 ^ 32 + bytes)) ∷ [])

-- a root past the frames, also at an address past the input, one of a level too low, and one of a level too high are alien at the
-- number of the highest table. `pointer` is the first entry of the frame
abbrev pub RefusesRoots : (walk : List ℕ → (levels address : ℕ) → Walked) → (pointer levels past : ℕ) → (top : (levels : ℕ) → ℕ) → Type 0
RefusesRoots walk pointer levels past top =
    AreAll (Alien (top levels)) (walk ((7 + levels) ∷ 0 ∷ zeros 512) levels past ∷ walk (space levels pointer 0) levels 0 ∷ [])
    × (walk (space (levels - 1) pointer 0) (levels + 1) 0 ≡ Alien (top (levels + 1)))

-- The step of a manual whose lowest table is 1 and whose entries have PS in bit 7. The bits of a page without PS and those of
-- a pointer are given, where both permit reads and writes.
-- All of it is told by tables: with PS an entry is a page in the two levels above the lowest alone, of 2 MiB and 1 GiB; without
-- it a pointer in every level above the lowest; every address bit, and only those, is read in each form; and pages that aren't of
-- their size's alignment are of no form.
abbrev pub AreSized : (step : (level word : ℕ) → Step) → (page pointer : ℕ) → Type 0
AreSized step page pointer =
    let large : ℕ = page + 2 ^ 7 in
    (map (λ level. step level (2 ^ 48 + large)) (up 1 5)
    ≡ S.Reserved ∷ S.Page (2 ^ 48) 21 true true ∷ S.Page (2 ^ 48) 30 true true ∷ S.Reserved ∷ S.Reserved ∷ [])
    × AreAll (S.Next 0x40001000 true true) (map (λ level. step level (0x40001000 + pointer)) (up 2 4))
    × ReadsEach (step 1) page (up 12 40) (λ k. S.Page (2 ^ k) 12 true true)
    × ReadsEach (step 2) large (up 21 31) (λ k. S.Page (2 ^ k) 21 true true)
    × ReadsEach (step 3) large (up 30 22) (λ k. S.Page (2 ^ k) 30 true true)
    × ReadsEach (step 4) pointer (up 12 40) (λ k. S.Next (2 ^ k) true true)
    × AreAll S.Reserved (with_each (step 2) large (up 12 9) ++ with_each (step 3) large (up 12 18))

-- The sizes of RISC-V tables, by level.
use Rattle.std.proofs.Common.{◌≡◌, ℕ, zero, suc, ◌*◌, ◌<◌, ◌≤◌, ◌⊎◌, inl, inr, refl, subst, sym, arith}
use Rattle.std.specs.Prelude.{IsTrue}
use Rattle.std.proofs.lemmas.Grind.{common_steps}
use Rattle.pt_model.specs.Layout.{is_size, level_of_size}
use Rattle.fmt_riscv.specs.RiscvWords.{AreLevels, three, four, five, layout}

-- a size of a level: what an entry maps, or sixteen pages in the lowest table
pub data IsSizeOf (level log2 : ℕ) : Type 0 where
  an_entry : log2 ≡ 9 * level → IsSizeOf level log2
  of_sixteen : level ≡ 0 → log2 ≡ 4 → IsSizeOf level log2

size_in : (levels log2 : ℕ) → AreLevels levels → IsTrue (is_size (layout levels) log2) →
    (log2 ≡ 0) ⊎ ((log2 ≡ 4) ⊎ ((log2 ≡ 9) ⊎ ((log2 ≡ 18) ⊎ (((log2 ≡ 27) × (4 ≤ levels)) ⊎ ((log2 ≡ 36) × (5 ≤ levels))))))
size_in levels log2 (three e) size = let s : IsTrue (is_size (layout 3) log2) = subst (λ n. IsTrue (is_size (layout n) log2)) e size in grind (arith, common_steps)
size_in levels log2 (four e) size = let s : IsTrue (is_size (layout 4) log2) = subst (λ n. IsTrue (is_size (layout n) log2)) e size in grind (arith, common_steps)
size_in levels log2 (five e) size = let s : IsTrue (is_size (layout 5) log2) = subst (λ n. IsTrue (is_size (layout n) log2)) e size in grind (arith, common_steps)

pub size_of : (levels level log2 : ℕ) → AreLevels levels → IsTrue (is_size (layout levels) log2) → level_of_size (layout levels) log2 ≡ level →
    IsSizeOf level log2 × (level < levels)
size_of levels level log2 are size at = elim (size_in levels log2 are size) [
  | inl e ↦ (an_entry (omega (arith, at)), many are (omega (arith, at)))
  | inr (inl e) ↦ (of_sixteen (omega (arith, at)) e, many are (omega (arith, at)))
  | inr (inr (inl e)) ↦ (an_entry (omega (arith, at)), many are (omega (arith, at)))
  | inr (inr (inr (inl e))) ↦ (an_entry (omega (arith, at)), many are (omega (arith, at)))
  | inr (inr (inr (inr (inl e)))) ↦ (let a = e.0 in let b = e.1 in (an_entry (omega (arith, at)), omega (arith, at)))
  | inr (inr (inr (inr (inr e)))) ↦ (let a = e.0 in let b = e.1 in (an_entry (omega (arith, at)), omega (arith, at)))
]
  where
    many : AreLevels levels → level < 3 → level < levels
    many (three e) low = omega arith
    many (four e) low = omega arith
    many (five e) low = omega arith

-- what an entry maps is a size
pub entry_size : (levels level : ℕ) → AreLevels levels → level < levels →
    IsTrue (is_size (layout levels) (9 * level)) × (level_of_size (layout levels) (9 * level) ≡ level)
entry_size levels zero (three e) low = (subst (λ n. IsTrue (is_size (layout n) 0)) (sym e) refl, refl)
entry_size levels zero (four e) low = (subst (λ n. IsTrue (is_size (layout n) 0)) (sym e) refl, refl)
entry_size levels zero (five e) low = (subst (λ n. IsTrue (is_size (layout n) 0)) (sym e) refl, refl)
entry_size levels (suc zero) (three e) low = (subst (λ n. IsTrue (is_size (layout n) 9)) (sym e) refl, refl)
entry_size levels (suc zero) (four e) low = (subst (λ n. IsTrue (is_size (layout n) 9)) (sym e) refl, refl)
entry_size levels (suc zero) (five e) low = (subst (λ n. IsTrue (is_size (layout n) 9)) (sym e) refl, refl)
entry_size levels (suc (suc zero)) (three e) low = (subst (λ n. IsTrue (is_size (layout n) 18)) (sym e) refl, refl)
entry_size levels (suc (suc zero)) (four e) low = (subst (λ n. IsTrue (is_size (layout n) 18)) (sym e) refl, refl)
entry_size levels (suc (suc zero)) (five e) low = (subst (λ n. IsTrue (is_size (layout n) 18)) (sym e) refl, refl)
entry_size levels (suc (suc (suc zero))) (three e) low = absurd (omega arith)
entry_size levels (suc (suc (suc zero))) (four e) low = (subst (λ n. IsTrue (is_size (layout n) 27)) (sym e) refl, refl)
entry_size levels (suc (suc (suc zero))) (five e) low = (subst (λ n. IsTrue (is_size (layout n) 27)) (sym e) refl, refl)
entry_size levels (suc (suc (suc (suc zero)))) (three e) low = absurd (omega arith)
entry_size levels (suc (suc (suc (suc zero)))) (four e) low = absurd (omega arith)
entry_size levels (suc (suc (suc (suc zero)))) (five e) low = (subst (λ n. IsTrue (is_size (layout n) 36)) (sym e) refl, refl)
entry_size levels (suc (suc (suc (suc (suc more))))) (three e) low = absurd (omega arith)
entry_size levels (suc (suc (suc (suc (suc more))))) (four e) low = absurd (omega arith)
entry_size levels (suc (suc (suc (suc (suc more))))) (five e) low = absurd (omega arith)

pub sixteen_size : (levels : ℕ) → AreLevels levels → IsTrue (is_size (layout levels) 4)
sixteen_size levels (three e) = subst (λ n. IsTrue (is_size (layout n) 4)) (sym e) refl
sixteen_size levels (four e) = subst (λ n. IsTrue (is_size (layout n) 4)) (sym e) refl
sixteen_size levels (five e) = subst (λ n. IsTrue (is_size (layout n) 4)) (sym e) refl

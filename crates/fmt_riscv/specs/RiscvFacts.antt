-- The words of RISC-V tables, to the manual and to code.
use Rattle.std.proofs.Common.{◌≡◌, ◌≢◌, ℕ, zero, suc, ◌+◌, ◌-◌, ◌*◌, ◌/◌, ◌%◌, ◌^◌, ◌<◌, ◌≤◌, refl, ap, ap₂, ◌∙◌, arith, true, false}
use Rattle.std.specs.Prelude.{IsTrue, nat_le, ◌==◌}
use Rattle.std.proofs.lemmas.Bool.{eq-eqb, le-leb, ne_eqb}
use Rattle.pt_model.specs.declared.block.Prot.{Prot}
use Rattle.pt_model.specs.Layout.{is_common, may_read, may_write}
use Rattle.pt_format.proofs.Permissions.{of_common}
use Rattle.pt_manual.specs.EntryBits.{is_aligned}
use Rattle.pt_manual.specs.RiscvWalk.{entry_at, is_sixteen, number_in, others_in, step_at}
use Rattle.pt_manual.specs.declared.step.Step.TheVariants.{Page, Next}
use Rattle.fmt_nine_bit.proofs.BlockFacts.{aligned_bytes}
use Rattle.fmt_riscv.specs.RiscvWords.{IsPointerOf, leaf, of_leaf, single, sixteen}

pub leaf_small : (prot : Prot) → IsTrue (is_common prot) → of_leaf prot < 2 ^ 10
leaf_small = of_common (λ prot. of_leaf prot < 2 ^ 10) (omega arith) (omega arith)

-- the leaf of each size
pub leaf_of_entry : (log2 out : ℕ) (prot : Prot) → log2 ≢ 4 → leaf log2 out prot ≡ single out prot
leaf_of_entry log2 out prot other = let no : (log2 == 4) ≡ false = ne_eqb _ _ other in rw no refl

pub not_four : (level : ℕ) → 9 * level ≢ 4
not_four level = λ e. omega arith

-- the manual's step at each word
single_parts : (out bits : ℕ) → out < 2 ^ 44 → bits < 2 ^ 10 →
    (number_in (out * 2 ^ 10 + bits) ≡ out) × (others_in (out * 2 ^ 10 + bits) ≡ bits)
single_parts out bits within low =
    let number : number_in (out * 2 ^ 10 + bits) ≡ out = omega arith in
    (number, omega (arith, number))

pub single_step : (level out : ℕ) (prot : Prot) → level < 5 → out < 2 ^ 44 → out % 2 ^ (9 * level) ≡ 0 → IsTrue (is_common prot) →
    step_at level (single out prot) ≡ Page (out * 2 ^ 12) (12 + 9 * level) (may_read prot) (may_write prot)
single_step level out prot low within aligned stated =
    let parts = single_parts out (of_leaf prot) within (leaf_small prot stated) in
    let whole = aligned_bytes 12 (9 * level) out aligned in
    ap₂ (λ n b. entry_at level (n * 2 ^ 12) b) parts.0 parts.1
    ∙ of_common (λ p. entry_at level (out * 2 ^ 12) (of_leaf p) ≡ Page (out * 2 ^ 12) (12 + 9 * level) (may_read p) (may_write p))
    (rw whole refl) (rw whole refl) prot stated

pub sixteen_step : (out : ℕ) (prot : Prot) → out + 16 ≤ 2 ^ 44 → out % 16 ≡ 0 → IsTrue (is_common prot) →
    step_at 0 (sixteen out prot) ≡ Page (out * 2 ^ 12) 16 (may_read prot) (may_write prot)
sixteen_step out prot within aligned stated =
    let low = leaf_small prot stated in
    let number : number_in (sixteen out prot) ≡ out + 8 = omega arith in
    let others : others_in (sixteen out prot) ≡ of_leaf prot + 2 ^ 63 = omega (arith, number) in
    let is : is_sixteen ((out + 8) * 2 ^ 12) ≡ true = eq-eqb _ _ (omega arith) in
    let begins : (out + 8) * 2 ^ 12 - 2 ^ 15 ≡ out * 2 ^ 12 = omega arith in
    ap₂ (λ n b. entry_at 0 (n * 2 ^ 12) b) number others
    ∙ of_common (λ p. entry_at 0 ((out + 8) * 2 ^ 12) (of_leaf p + 2 ^ 63) ≡ Page ((out + 8) * 2 ^ 12 - 2 ^ 15) 16 (may_read p) (may_write p))
    (rw is refl) (rw is refl) prot stated
    ∙ ap (λ a. Page a 16 (may_read prot) (may_write prot)) begins

pub pointer_step : (level word address : ℕ) → IsPointerOf level word address → step_at level word ≡ Next address true true
pointer_step level word address p =
    let few = p.a_frame.in_limit in
    let at = p.a_frame.address_is in
    let pages : address / 2 ^ 12 * 2 ^ 12 ≡ address = omega arith in
    let parts = single_parts (address / 2 ^ 12) (2 ^ 0) (omega arith) (omega arith) in
    let upper : nat_le 1 level ≡ true = le-leb _ _ p.above in
    ap (step_at level) p.word_is
    ∙ ap₂ (λ n b. entry_at level (n * 2 ^ 12) b) parts.0 parts.1
    ∙ rw (upper, pages) refl

-- The permissions that every format states.
use Rattle.std.proofs.Common.{◌≡◌, ℕ, ◌%◌, ◌^◌, ◌<◌, refl, ap, ◌∙◌, true, false}
use Rattle.std.specs.Prelude.{IsTrue, bit_and, ◌==◌}
use Rattle.std.proofs.lemmas.Bool.{both_ways}
use Rattle.pt_model.specs.declared.block.Prot.{Prot}
use Rattle.pt_model.specs.declared.block.Prot.TheVariants.{Read, ReadWrite}
use Rattle.pt_model.specs.Layout.{is_common}
use Rattle.pt_format.proofs.BitFacts.{and_end}

-- what holds of both
pub of_common : (P : Prot → Type 0) → P Read → P ReadWrite → (prot : Prot) → IsTrue (is_common prot) → P prot
of_common P read both Read stated = read
of_common P read both ReadWrite stated = both

-- The permission of a leaf by a bit that is set where writes are permitted, and not else.
module _ (of_leaf : Prot → ℕ) (write : ℕ) (low : write < 2 ^ 7)
    (clear : (bit_and (of_leaf Read) write == write) ≡ false) (set : (bit_and (of_leaf ReadWrite) write == write) ≡ true) where
  pub both_by_bit : (bits : ℕ) → (bit_and bits write == write) ≡ true → (prot : Prot) → IsTrue (is_common prot) → bits % 2 ^ 7 ≡ of_leaf prot →
      ReadWrite ≡ prot
  both_by_bit bits test =
      of_common (λ p. bits % 2 ^ 7 ≡ of_leaf p → ReadWrite ≡ p)
      (λ e. absurd (both_ways _ (ap (λ n. n == write) (and_end 7 bits (of_leaf Read) write e low) ∙ clear) test))
      (λ e. refl)

  pub read_by_bit : (bits : ℕ) → (bit_and bits write == write) ≡ false → (prot : Prot) → IsTrue (is_common prot) → bits % 2 ^ 7 ≡ of_leaf prot →
      Read ≡ prot
  read_by_bit bits test =
      of_common (λ p. bits % 2 ^ 7 ≡ of_leaf p → Read ≡ p)
      (λ e. refl)
      (λ e. absurd (both_ways _ test (ap (λ n. n == write) (and_end 7 bits (of_leaf ReadWrite) write e low) ∙ set)))

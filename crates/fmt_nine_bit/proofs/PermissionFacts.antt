-- The permission that is written.
use Rattle.std.proofs.Common.{◌≡◌, ℕ, refl, sym}
use Rattle.std.specs.Prelude.{IsTrue}
use Rattle.pt_model.specs.declared.block.Prot.{Prot}
use Rattle.pt_model.specs.declared.block.Prot.TheVariants.{Read, ReadWrite}
use Rattle.pt_model.specs.Layout.{is_common}
use Rattle.pt_format.proofs.Permissions.{of_common}

-- it is told by bits that differ between the two that every format states
pub one_permission : (bits_of : Prot → ℕ) → (bits_of Read ≡ bits_of ReadWrite → ⊥) → (p q : Prot) → IsTrue (is_common p) → IsTrue (is_common q) →
    bits_of p ≡ bits_of q → p ≡ q
one_permission bits_of differ p q stated stated' =
    of_common (λ x. bits_of x ≡ bits_of q → x ≡ q)
    (of_common (λ y. bits_of Read ≡ bits_of y → Read ≡ y) (λ e. refl) (λ e. absurd (differ e)) q stated')
    (of_common (λ y. bits_of ReadWrite ≡ bits_of y → ReadWrite ≡ y) (λ e. absurd (differ (sym e))) (λ e. refl) q stated')
    p stated

-- The laws of VT-d tables.
use Rattle.std.proofs.Common.{◌≡◌, ℕ, ◌+◌, ◌<◌, refl, arith, true, false}
use Rattle.std.specs.Prelude.{nat_le, ◌==◌}
use Rattle.std.proofs.lemmas.Bool.{le-leb, ne_eqb}
use Rattle.pt_manual.specs.declared.step.Step.TheVariants.{Next}
use Rattle.fmt_nine_bit.proofs.CommonEntries.{HasForms}
use Rattle.fmt_vtdss.specs.VtdWords.{words}

a_pointer : (level address : ℕ) → 0 < level → words.entry (level + 1) address words.of_pointer ≡ Next address true true
a_pointer level address above =
    let upper : (level + 1 == 1) ≡ false = ne_eqb _ _ (λ e. omega arith) in
    let high : nat_le 2 (level + 1) ≡ true = le-leb _ _ (omega arith) in
    rw (upper, high) refl

-- the manual reads what is written
pub forms : HasForms words
forms = record {
  common = record { read_some = omega arith; more = omega arith; few = omega arith; pointer_few = omega arith };
  empty = λ level. refl;
  pages = λ address. (record { small = refl; large = refl; largest = refl }, record { small = refl; large = refl; largest = refl });
  pointer = a_pointer;
}

-- The laws of x86-64 tables.
use Rattle.std.proofs.Common.{◌≡◌, ◌+◌, refl, arith, true}
use Rattle.std.specs.Prelude.{nat_le}
use Rattle.std.proofs.lemmas.Bool.{le-leb}
use Rattle.fmt_nine_bit.proofs.CommonEntries.{HasForms}
use Rattle.fmt_x86.specs.X86Words.{words}

-- the manual reads what is written
pub forms : HasForms words
forms = record {
  common = record { read_some = omega arith; more = omega arith; few = omega arith; pointer_few = omega arith };
  empty = λ level. refl;
  pages = λ address. (record { small = refl; large = refl; largest = refl }, record { small = refl; large = refl; largest = refl });
  pointer = λ level address above. let high : nat_le 2 (level + 1) ≡ true = le-leb _ _ (omega arith) in rw high refl;
}

use Rattle.std.proofs.Common.{refl, arith}
use Rattle.fmt_amdv1.proofs.tests.pointers.Goals as goal

pub table_word-requires-clause-a_frame : goal.table_word-requires-clause-a_frame
table_word-requires-clause-a_frame g c = record { frame = 3; in_limit = omega arith; address_is = refl }

use Rattle.std.proofs.Common.{arith}
use Rattle.std.specs.Prelude.{bit_or}
use Rattle.pt_num.proofs.Bits.{divides_where, divides_both}
use Rattle.pt_num.proofs.common_alignment.Goals as goal

pub returns : goal.returns
returns c = λ k small.
    let where_divides = divides_where 64 k (bit_or c.args.first c.args.out) (omega arith) in
    let both = divides_both c.args.first c.args.out k in
    ((λ low. both.0 (where_divides.0 low)), (λ divides. where_divides.1 (both.1 divides)))

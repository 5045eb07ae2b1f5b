use Rattle.std.proofs.Common.{◌%◌, ◌^◌, ap, ◌∙◌}
use Rattle.pt_format.proofs.FourKibWords.{leaf_bits}
use Rattle.pt_format.proofs.entry_bits.permission_in.Goals as goal

pub returns-clause-of_leaf : goal.returns-clause-of_leaf
returns-clause-of_leaf g c = λ level out prot is.
    let e = g.met.E.EntryBits in
    c.permission.ensures.of_leaf prot is.stated
    (ap (λ n. n % 2 ^ 7) (c.from_bits_retain.ensures e.is_exact) ∙ leaf_bits e.are_bits is)

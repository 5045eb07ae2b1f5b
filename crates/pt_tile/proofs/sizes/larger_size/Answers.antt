use Rattle.std.proofs.Common.{inl, inr, sym, ◌∙◌}
use Rattle.std.proofs.lemmas.Bool.{cases_lt, false≢true}
use Rattle.pt_tile.proofs.Begun.{agree_fewer}
use Rattle.pt_tile.proofs.sizes.larger_size.Goals as goal

pub returns-else-lie_alike : goal.returns-else-lie_alike
returns-else-lie_alike g c = record {
  least = λ k a_size alike. elim (cases_lt k c.args.log2) [
    | inl below ↦ below
    | inr from ↦
        let least = c.in_ok-size.ensures.3 k ((c.requires k).1 a_size) from in
        absurd (false≢true (sym c.if-lie_alike.false ∙ c.lie_alike.ensures.1 (agree_fewer c.in_ok-size.size k c.args.first c.args.out least alike)))
  ];
  small = tt;
}

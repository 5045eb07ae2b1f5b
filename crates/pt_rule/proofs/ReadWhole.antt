-- The book of a view of the whole space is read from the words.
use Rattle.std.proofs.Common.{ℕ, ◌<◌, [], ◌∷◌, sym, subst}
use Rattle.pt_rule.specs.Lawful.{Lawful}
use Rattle.pt_rule.specs.WholeView.{WholeIsRead}
use Rattle.pt_rule.proofs.AloneKept.{alone}
use Rattle.pt_rule.proofs.SpansFacts.{some_page, whole_first}
use Rattle.pt_rule.proofs.ReadTables.{tables_read, top_read}
use Rattle.pt_rule.proofs.ReadPieces.{pieces_read}

pub whole_read : WholeIsRead
whole_read f good d a n l words views id v r at whole =
    let one : Lawful f n l words (v ∷ []) = alone f n l words views id v r at whole in
    let live : 0 < v.count = subst (λ (k : ℕ). 0 < k) (sym whole) (some_page f) in (
      pieces_read f n l words v good d a one live,
      tables_read f n l words v good one live,
      top_read f n l words v good one live,
      whole_first f views r.spans id v at whole,
    )

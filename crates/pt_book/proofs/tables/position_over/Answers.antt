use Rattle.std.proofs.Common.{◌≡◌, ℕ, ◌*◌, ◌/◌, ◌<◌, ap, sym, ◌∙◌, arith}
use Rattle.std.proofs.Math.Nat.{div-eq_of_lt}
use Rattle.pt_model.specs.declared.position.Position.{Position}
use Rattle.pt_model.specs.Layout.{pages_of_table}
use Rattle.pt_book.proofs.PositionFacts.{past_numbers}
use Rattle.pt_book.proofs.tables.position_over.Goals as goal

pub returns-else-log2-lt64 : goal.returns-else-log2-lt64
returns-else-log2-lt64 g c =
    let f = g.F.Format.layout in
    let index = c.INDEX.ensures ∙ sym g.met.F.Format.has_constants.index_is in
    let past = past_numbers f c.INDEX.result c.args.level index (omega arith) in
    let small : c.args.page < pages_of_table f c.args.level = omega arith in
    let none : c.args.page / pages_of_table f c.args.level ≡ 0 = div-eq_of_lt small in
    let zero : 0 * pages_of_table f c.args.level ≡ 0 = omega arith in
    let base : 0 ≡ c.args.page / pages_of_table f c.args.level * pages_of_table f c.args.level =
    sym (ap (λ n. n * pages_of_table f c.args.level) none ∙ zero) in
    ap (λ (n : ℕ). let p : Position = record { level = c.args.level; base = n } in p) base

use Rattle.std.proofs.Common.{◌≡◌, ◌+◌, ◌*◌, ◌/◌, ◌%◌, ◌^◌, ap, sym, ◌∙◌}
use Rattle.std.proofs.lemmas.Nat.{one_shl}
use Rattle.std.proofs.lemmas.Result.{on_ok_weaker}
use Rattle.pt_book.proofs.PositionFacts.{log2_small, needed_done}
use Rattle.pt_book.proofs.tables.add_needed.Goals as goal

pub overflow_shl-block : goal.overflow_shl-block
overflow_shl-block g c = log2_small g.F.Format.layout g.met.F.Format.lawful_layout c.args.block c.requires.legal

pub returns : goal.returns
returns g c =
    let f = g.F.Format.layout in
    let b = c.args.block in
    let few = log2_small f g.met.F.Format.lawful_layout b c.requires.legal in
    let last : b.first + 1 * 2 ^ b.log2 % 2 ^ 64 ≡ b.first + 2 ^ b.log2 = ap (λ n. b.first + n) (one_shl b.log2 64 few) in
    let low : b.log2 / c.INDEX.result ≡ b.log2 / f.index = ap (λ n. b.log2 / n) (c.INDEX.ensures ∙ sym g.met.F.Format.has_constants.index_is) in
    on_ok_weaker c.add_over-2.result
    (λ e. needed_done f c.args.levels b c.args.list.now.items _ _ c.least_top-top.result _ _ last c.least_top-top.ensures.top low c.in_ok-add_over.ensures.added e)
    c.add_over-2.ensures.added

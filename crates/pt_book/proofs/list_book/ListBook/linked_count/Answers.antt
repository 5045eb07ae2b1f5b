use Rattle.std.proofs.Common.{◌≡◌, ◌+◌, ◌-◌, length, ap, ap₂, ◌∙◌, arith}
use Rattle.pt_model.specs.Tables.{levels_between, starting_top}
use Rattle.pt_model.specs.Book.{linked_count}
use Rattle.pt_book.specs.Spaces.{Space}
use Rattle.pt_book.proofs.PositionFacts.{levels_counted}
use Rattle.pt_book.proofs.list_book.ListBook.linked_count.Goals as goal

pub returns : goal.returns
returns g c =
    let s = c.self.inside in
    let spine : s.top + 2 - s.levels ≡ length (levels_between (starting_top s.levels) s.top) =
    levels_counted s.levels s.top (omega (arith, c.self.invariant.3.low, g.met.F.Format.lawful_layout.start_low)) c.self.invariant.4 in
    ap₂ (λ m n. m + n) (c.len.ensures ∙ s.tables.ok.0) spine ∙ ap (λ (s : Space). linked_count s.levels s.book) c.self.view_is

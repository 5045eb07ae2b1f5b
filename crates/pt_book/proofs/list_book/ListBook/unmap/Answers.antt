use Rattle.std.proofs.Common.{◌≡◌, ◌+◌, ◌/◌, ◌^◌, ap₂, sym, subst, ◌∙◌, arith}
use Rattle.std.specs.Prelude.{All, not}
use Rattle.std.proofs.lemmas.List.Elements.{All-filter}
use Rattle.pt_model.specs.Layout.{IsLegalBlock}
use Rattle.pt_model.specs.Pages.{page_under}
use Rattle.pt_model.specs.Book.{lies_in, table_lies_in}
use Rattle.pt_model.specs.Sets.{IsSorted}
use Rattle.pt_model.proofs.Positions.{sorted_filter}
use Rattle.pt_format.proofs.PageFacts.{under_small, count_small}
use Rattle.pt_book.proofs.list_book.ListBook.unmap.Given.{Over}
use Rattle.pt_book.proofs.list_book.ListBook.unmap.Goals as goal
use Rattle.pt_book.proofs.list_book.ListBook.unmap.Goals.{After-GRANULE}

-- the end of the range
last_is : (g : Over) (c : After-GRANULE g) →
    c.page_under-first.result + c.args.len / 2 ^ c.GRANULE.result ≡ page_under g.F.Format.layout c.args.va + c.args.len / 2 ^ g.F.Format.layout.granule
last_is g c =
    ap₂ (λ a k. a + c.args.len / 2 ^ k) c.page_under-first.ensures.page (c.GRANULE.ensures ∙ sym g.met.F.Format.has_constants.granule_is)

pub overflow_add-last : goal.overflow_add-last
overflow_add-last g c =
    let f = g.F.Format.layout in
    let l = g.met.F.Format.lawful_layout in
    omega (arith, last_is g c, under_small f c.args.va l, count_small f c.args.len l (omega arith))

pub invariant_of-self : goal.invariant_of-self
invariant_of-self g c =
    let f = g.F.Format.layout in
    let legal = All (IsLegalBlock f) in
    let first = c.page_under-first.result in
    let last = first + c.args.len / 2 ^ c.GRANULE.result in
    let old : legal c.deref-3.result.now = subst legal (sym c.deref-3.ensures.value) c.self.invariant.1 in
    let sorted : IsSorted c.deref-2.result.now = subst IsSorted (sym c.deref-2.ensures.value) c.self.invariant.2 in (
      c.self.invariant.0,
      subst legal (sym c.in_ok-self-inside.ensures) (All-filter (λ b. not (lies_in first last b)) (IsLegalBlock f) c.deref-3.result.now old),
      subst IsSorted (sym c.in_ok-tables.ensures) (sorted_filter (λ p. not (table_lies_in f first last p)) c.deref-2.result.now sorted),
      c.self.invariant.3,
      c.self.invariant.4,
      c.self.invariant.5,
    )

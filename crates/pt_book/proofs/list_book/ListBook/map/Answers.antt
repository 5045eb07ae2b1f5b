use Rattle.std.proofs.Common.{◌≡◌, ◌+◌, ◌/◌, ◌^◌, ◌≤◌, ap, ap₂, sym, subst, ◌∙◌, arith}
use Rattle.std.specs.Prelude.{All, max}
use Rattle.pt_model.specs.Layout.{IsLegalBlock, input_pages}
use Rattle.pt_model.specs.Pages.{page_under}
use Rattle.pt_model.specs.Tables.{least_top}
use Rattle.pt_model.specs.Tiling.{tiling}
use Rattle.pt_model.specs.Book.{add_blocks, mapped}
use Rattle.pt_format.proofs.PageFacts.{under_small, count_small}
use Rattle.pt_book.specs.Spaces.{Space, with_book}
use Rattle.pt_book.proofs.ListFacts.{all_added}
use Rattle.pt_book.proofs.PositionFacts.{mapped_is, tables_after}
use Rattle.pt_book.proofs.Refusing.{allowed_input}
use Rattle.pt_book.proofs.list_book.ListBook.map.Given.{Over}
use Rattle.pt_book.proofs.list_book.ListBook.map.Goals as goal
use Rattle.pt_book.proofs.list_book.ListBook.map.Goals.{After-GRANULE}

-- the end of the range
last_is : (g : Over) (c : After-GRANULE g) →
    c.page_under.result + c.args.len / 2 ^ c.GRANULE.result ≡ page_under g.F.Format.layout c.args.va + c.args.len / 2 ^ g.F.Format.layout.granule
last_is g c =
    ap₂ (λ a k. a + c.args.len / 2 ^ k) c.page_under.ensures.page (c.GRANULE.ensures ∙ sym g.met.F.Format.has_constants.granule_is)

within : (g : Over) (c : After-GRANULE g) → page_under g.F.Format.layout c.args.va + c.args.len / 2 ^ g.F.Format.layout.granule ≤ input_pages g.F.Format.layout
within g c =
    let f = g.F.Format.layout in
    let span : page_under f c.args.va + c.args.len / 2 ^ f.granule ≤ c.self.inside.first + c.self.inside.count =
    subst (λ (s : Space). page_under f c.args.va + c.args.len / 2 ^ f.granule ≤ s.book.first + s.book.count) (sym c.self.view_is)
    (allowed_input f c.args.self.now.book c.args.va c.args.pa c.args.len c.requires.allowed) in
    omega (arith, span, c.self.invariant.0)

pub overflow_add-last : goal.overflow_add-last
overflow_add-last g c =
    let f = g.F.Format.layout in
    let l = g.met.F.Format.lawful_layout in
    omega (arith, last_is g c, under_small f c.args.va l, count_small f c.args.len l (omega arith))

pub least_top-requires-clause-in_space : goal.least_top-requires-clause-in_space
least_top-requires-clause-in_space g c =
    let o = (goal.at.least_top-requires-clause-in_space g c).After-GRANULE in
    omega (arith, last_is g o, within g o)

pub invariant_of-self : goal.invariant_of-self
invariant_of-self g c =
    let legal = All (IsLegalBlock g.F.Format.layout) in
    let old : legal c.deref-3.result.now = subst legal (sym c.deref-3.ensures.value) c.self.invariant.1 in
    let new : legal c.deref-4.result.now = subst legal (sym c.deref-4.ensures.value) c.in_ok-new.ensures.legal in (
      c.self.invariant.0,
      subst legal (sym c.in_ok-self-inside.ensures)
          (all_added (IsLegalBlock g.F.Format.layout) c.deref-3.result.now c.deref-4.result.now old new),
      c.in_ok-tables.ensures.in_order,
      c.self.invariant.3,
      omega (arith, c.max-self-inside.ensures, c.self.invariant.4),
      omega (arith, c.max-self-inside.ensures, c.self.invariant.5, c.least_top.ensures.below),
    )

pub returns-clause-mapped : goal.returns-clause-mapped
returns-clause-mapped g c =
    let f = g.F.Format.layout in
    let first = page_under f c.args.va in
    let count = c.args.len / 2 ^ f.granule in
    let out = c.args.pa / 2 ^ f.granule in
    let old : Space = record {
      levels = c.self.inside.levels;
      book = record {
        first = c.self.inside.first;
        count = c.self.inside.count;
        blocks = c.self.inside.blocks.items;
        tables = c.self.inside.tables.items;
        top = c.self.inside.top;
      };
    } in
    let blocks : c.in_ok-self-inside.field-0.items ≡ add_blocks old.book.blocks (tiling f c.args.prot first out count) =
    c.in_ok-self-inside.ensures ∙ ap₂ add_blocks c.deref-3.ensures.value (c.deref-4.ensures.value ∙ c.in_ok-new.ensures.tiling) in
    let tables : c.in_ok-tables.tables.items ≡ tables_after f old.levels old.book.tables (tiling f c.args.prot first out count) =
    c.in_ok-tables.ensures.tables
    ∙ ap₂ (tables_after f old.levels) c.deref.ensures.value (c.deref-2.ensures.value ∙ c.in_ok-new.ensures.tiling) in
    let top : c.max-self-inside.result ≡ max old.book.top (least_top f old.levels (first + count)) =
    c.max-self-inside.ensures
    ∙ ap (max old.book.top) (c.least_top.ensures.top ∙ ap (least_top f old.levels) (last_is g (goal.at.returns-clause-mapped g c).After-GRANULE)) in
    ap (with_book old) (mapped_is f old.levels old.book first count out c.args.prot c.in_ok-self-inside.field-0.items c.in_ok-tables.tables.items c.max-self-inside.result blocks tables top)
    ∙ ap (λ (s : Space). with_book s (mapped f s.levels s.book first count out c.args.prot)) c.self.view_is

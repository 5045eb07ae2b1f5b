use Rattle.std.proofs.Common.{◌≡◌, ◌+◌, ◌/◌, ◌^◌, ◌≤◌, ap, sym, subst, ◌∙◌, arith}
use Rattle.std.specs.Prelude.{All, AllPairs}
use Rattle.pt_model.specs.declared.block.Block.{Block}
use Rattle.pt_model.specs.Layout.{IsLegalBlock, input_pages, output_pages}
use Rattle.pt_model.specs.Pages.{page_under}
use Rattle.pt_model.specs.Tiling.{tiling, IsTiling}
use Rattle.pt_model.proofs.TilingFacts.{tiling_is}
use Rattle.pt_book.specs.Spaces.{Space}
use Rattle.pt_book.proofs.ListFacts.{answered, tiling_legal, tiling_ordered}
use Rattle.pt_book.proofs.Refusing.{allowed_input, allowed_output}
use Rattle.pt_book.proofs.list_book.ListBook.new_blocks.Given.{Over}
use Rattle.pt_book.proofs.list_book.ListBook.new_blocks.Goals as goal
use Rattle.pt_book.proofs.list_book.ListBook.new_blocks.Goals.{After-GRANULE-2}

in_input : (g : Over) (c : After-GRANULE-2 g) → c.page_under.result + c.args.len / 2 ^ c.GRANULE.result ≤ input_pages g.F.Format.layout
in_input g c =
    let f = g.F.Format.layout in
    let bits : c.GRANULE.result ≡ f.granule = c.GRANULE.ensures ∙ sym g.met.F.Format.has_constants.granule_is in
    let count : c.args.len / 2 ^ c.GRANULE.result ≡ c.args.len / 2 ^ f.granule = ap (λ k. c.args.len / 2 ^ k) bits in
    let within : page_under f c.args.va + c.args.len / 2 ^ f.granule ≤ c.self.inside.first + c.self.inside.count =
    subst (λ (s : Space). page_under f c.args.va + c.args.len / 2 ^ f.granule ≤ s.book.first + s.book.count) (sym c.self.view_is)
    (allowed_input f c.args.self.now.book c.args.va c.args.pa c.args.len c.requires.allowed) in
    omega (arith, count, within, c.page_under.ensures.page, c.self.invariant.0)

in_output : (g : Over) (c : After-GRANULE-2 g) →
    c.args.pa / 2 ^ c.GRANULE-2.result + c.args.len / 2 ^ c.GRANULE.result ≤ output_pages g.F.Format.layout
in_output g c =
    let f = g.F.Format.layout in
    let constant = g.met.F.Format.has_constants.granule_is in
    let count : c.args.len / 2 ^ c.GRANULE.result ≡ c.args.len / 2 ^ f.granule = ap (λ k. c.args.len / 2 ^ k) (c.GRANULE.ensures ∙ sym constant) in
    let out : c.args.pa / 2 ^ c.GRANULE-2.result ≡ c.args.pa / 2 ^ f.granule = ap (λ k. c.args.pa / 2 ^ k) (c.GRANULE-2.ensures ∙ sym constant) in
    omega (
      arith,
      count,
      out,
      allowed_output f g.met.F.Format.lawful_layout c.args.self.now.book c.args.va c.args.pa c.args.len c.requires.allowed,
    )

pub tiled-requires-clause-in_input : goal.tiled-requires-clause-in_input
tiled-requires-clause-in_input g c = in_input g c

pub tiled-requires-clause-in_output : goal.tiled-requires-clause-in_output
tiled-requires-clause-in_output g c = in_output g c

-- the blocks are a tiling of the range
a_tiling : (g : Over) (c : After-GRANULE-2 g) →
    IsTiling g.F.Format.layout c.args.prot c.page_under.result (c.args.pa / 2 ^ c.GRANULE-2.result) (c.args.len / 2 ^ c.GRANULE.result)
    (tiling g.F.Format.layout c.args.prot c.page_under.result (c.args.pa / 2 ^ c.GRANULE-2.result) (c.args.len / 2 ^ c.GRANULE.result))
a_tiling g c =
    tiling_is g.F.Format.layout c.args.prot c.page_under.result (c.args.pa / 2 ^ c.GRANULE-2.result) (c.args.len / 2 ^ c.GRANULE.result)
    g.met.F.Format.lawful_layout.has_pages (in_input g c) (in_output g c)

pub returns-clause-legal : goal.returns-clause-legal
returns-clause-legal g c =
    let a = (goal.at.returns-clause-legal g c).After-GRANULE-2 in
    answered c.tiled.result _ (All (IsLegalBlock g.F.Format.layout)) (tiling_legal g.F.Format.layout c.args.prot _ _ _ _ (a_tiling g a)) c.tiled.ensures

pub returns-clause-in_order : goal.returns-clause-in_order
returns-clause-in_order g c =
    let a = (goal.at.returns-clause-in_order g c).After-GRANULE-2 in
    answered c.tiled.result _ (AllPairs (λ (b c : Block). b.first ≤ c.first)) (tiling_ordered g.F.Format.layout c.args.prot _ _ _ _ (a_tiling g a))
    c.tiled.ensures

use Rattle.std.proofs.Common.{◌≡◌, ◌+◌, List, sym, ◌∙◌, arith}
use Rattle.std.specs.Prelude.{find}
use Rattle.std.proofs.lemmas.Bool.{false≢true}
use Rattle.std.proofs.lemmas.List.Elements.{All-contains}
use Rattle.pt_model.specs.declared.block.Block.{Block}
use Rattle.pt_model.specs.Layout.{IsLegalBlock}
use Rattle.pt_model.specs.Book.{meets}
use Rattle.pt_view.specs.Views.{IsAtRest}
use Rattle.pt_walk.proofs.Cuts.{pages_few}
use Rattle.pt_sweep.proofs.CutBlocks.{found_one, over_found, over_none}
use Rattle.pt_sweep.proofs.request.cut_over.Given.{Over}
use Rattle.pt_sweep.proofs.request.cut_over.Goals.{After-next_block}
use Rattle.pt_sweep.proofs.request.cut_over.Goals as goal

-- the block over the page
found : (g : Over) (c : After-next_block g) (blocks : List Block) → IsAtRest g.F.Format.layout (g.H.Holder.view c.args.holder.now) blocks → c.next_block.result ≡ find (meets c.args.page (c.args.page + 1)) blocks
found g c blocks rest = c.next_block.ensures.found blocks rest (omega arith)

pub returns-in_err-block-clause-cut : goal.returns-in_err-block-clause-cut
returns-in_err-block-clause-cut g c blocks rest =
    let f1 = found g (goal.at.returns-in_err-block-clause-cut g c).After-next_block blocks rest in
    c.from_residual.ensures ∙ sym (over_none c.args.first c.args.end c.args.page c.requires.page.0 c.requires.page.1 blocks (sym f1 ∙ c.in_err-block.was))

pub reaches_out-requires : goal.reaches_out-requires
reaches_out-requires g c =
    let f = g.F.Format.layout in
    let blocks = c.requires.rest.0 in
    let one = found_one (meets c.args.page (c.args.page + 1)) blocks c.in_ok-block.block
    (sym (found g (goal.at.reaches_out-requires g c).After-next_block blocks c.requires.rest.1) ∙ c.in_ok-block.was) in
    let legal = All-contains (IsLegalBlock f) blocks c.in_ok-block.block (c.requires.lawful blocks c.requires.rest.1).legal one.0 in
    let inside = legal.in_input in
    let few = pages_few f g.met.F.Format.lawful_layout in omega arith

pub returns-then-reaches_out-clause-cut : goal.returns-then-reaches_out-clause-cut
returns-then-reaches_out-clause-cut g c blocks rest =
    sym ((over_found c.args.first c.args.end c.args.page c.requires.page.0 c.requires.page.1 blocks (c.requires.lawful blocks rest).in_order c.in_ok-block.block
    (sym (found g (goal.at.returns-then-reaches_out-clause-cut g c).After-next_block blocks rest) ∙ c.in_ok-block.was)).0 (c.reaches_out.ensures.0 c.if-reaches_out.true))

pub returns-else-reaches_out-clause-cut : goal.returns-else-reaches_out-clause-cut
returns-else-reaches_out-clause-cut g c blocks rest =
    sym ((over_found c.args.first c.args.end c.args.page c.requires.page.0 c.requires.page.1 blocks (c.requires.lawful blocks rest).in_order c.in_ok-block.block
    (sym (found g (goal.at.returns-else-reaches_out-clause-cut g c).After-next_block blocks rest) ∙ c.in_ok-block.was)).1
    (λ out. false≢true (sym c.if-reaches_out.false ∙ c.reaches_out.ensures.1 out)))

use Rattle.std.proofs.Common.{◌≡◌, Bool, false, List, sym, ap, ◌∙◌, arith}
use Rattle.std.specs.Prelude.{nat_lt, option_map, Option, Some, None, if◌then◌else◌}
use Rattle.std.proofs.lemmas.Bool.{false_from_ne_true, lt-ltb, ltb-true}
use Rattle.pt_model.specs.declared.block.Block.{Block}
use Rattle.pt_model.specs.Cuts.{cut_refusal}
use Rattle.pt_model.specs.Unmap.{CutsEntry}
use Rattle.pt_view.specs.Views.{IsAtRest, book_of}
use Rattle.pt_walk.proofs.Crossing.{crossing, if_before}
use Rattle.pt_walk.proofs.cut.cut_page.Given.{Over}
use Rattle.pt_walk.proofs.cut.cut_page.Goals as goal
use Rattle.pt_walk.proofs.cut.cut_page.Goals.{After-next_block}

-- what is left to test of a page behind the first one
tested : (g : Over) (c : After-next_block g) (blocks : List Block) → IsAtRest g.F.Format.layout (g.H.Holder.view c.args.holder.now) blocks →
    cut_refusal g.F.Format.layout (book_of (g.H.Holder.view c.args.holder.now) blocks) c.args.at ≡ option_map CutsEntry (if_before c.in_ok-page.page c.next_block.result)
tested g c blocks rest =
    c.in_ok-page.ensures.found.refusal (book_of (g.H.Holder.view c.args.holder.now) blocks) (sym c.range.ensures.first) (sym c.range.ensures.count)
    ∙ ap (λ (o : Option Block). option_map CutsEntry o)
    (crossing c.in_ok-page.page blocks (c.range.ensures.lawful blocks rest).in_order
    ∙ ap (if_before c.in_ok-page.page) (sym (c.next_block.ensures.found blocks rest (omega arith))))

pub returns-in_default-clause-answered : goal.returns-in_default-clause-answered
returns-in_default-clause-answered g c blocks rest =
    tested g (goal.at.returns-in_default-clause-answered g c).After-next_block blocks rest
    ∙ ap (λ (o : Option Block). option_map CutsEntry (if_before c.in_ok-page.page o)) c.in_default.is

pub returns-then-block-page-clause-answered : goal.returns-then-block-page-clause-answered
returns-then-block-page-clause-answered g c blocks rest =
    let b = c.in-Some.block in
    tested g (goal.at.returns-then-block-page-clause-answered g c).After-next_block blocks rest
    ∙ ap (λ (o : Option Block). option_map CutsEntry (if_before c.in_ok-page.page o)) c.in-Some.is
    ∙ ap (λ (t : Bool). option_map CutsEntry (if t then Some b else None)) (lt-ltb b.first c.in_ok-page.page c.if-block-page.true)

pub returns-clause-answered : goal.returns-clause-answered
returns-clause-answered g c blocks rest =
    let b = c.in-Some.block in
    let from : nat_lt b.first c.in_ok-page.page ≡ false = false_from_ne_true (nat_lt b.first c.in_ok-page.page) (λ e.
    let low = ltb-true b.first c.in_ok-page.page e in let no = c.if-block-page.false in omega arith) in
    tested g (goal.at.returns-clause-answered g c).After-next_block blocks rest
    ∙ ap (λ (o : Option Block). option_map CutsEntry (if_before c.in_ok-page.page o)) c.in-Some.is
    ∙ ap (λ (t : Bool). option_map CutsEntry (if t then Some b else None)) from

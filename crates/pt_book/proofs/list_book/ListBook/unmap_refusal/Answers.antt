use Rattle.std.proofs.Common.{rules, ◌≡◌, ◌+◌, List, Option, Some, false, refl, ap, sym, ◌∙◌, arith}
use Rattle.std.specs.Prelude.{find, option_map}
use Rattle.pt_model.specs.declared.block.Block.{Block}
use Rattle.pt_model.specs.Layout.{IsLegalBlock}
use Rattle.pt_model.specs.Unmap.{CutRefusal, is_cut, lowest_cut, unmap_refusal}
use Rattle.pt_model.specs.Run.{refused_unmap}
use Rattle.pt_book.specs.Spaces.{Space}
use Rattle.pt_book.proofs.ListFacts.{found_is}
use Rattle.pt_book.proofs.Refusing.{end_small, plain_book}
use Rattle.pt_book.proofs.UnmapRefusing.{answer_is}
use Rattle.pt_book.proofs.list_book.ListBook.unmap_refusal.Goals as goal

pub overflow_add-last : goal.overflow_add-last
overflow_add-last g c =
    omega (arith, end_small g.met.F.Format.lawful_layout c.args.va c.args.len c.in-Some.span (omega arith) c.in-Some.ensures)

pub returns-then-not-is_inside-clause-answer : goal.returns-then-not-is_inside-clause-answer
returns-then-not-is_inside-clause-answer g c =
    let f = g.F.Format.layout in
    let book = plain_book f c.self.inside.first c.self.inside.count c.self.inside.blocks.items in
    sym (ap (λ (s : Space). option_map refused_unmap (unmap_refusal f s.book c.args.va c.args.len)) (sym c.self.view_is)
    ∙ ap (λ (o : Option CutRefusal). option_map refused_unmap o)
    (answer_is f book c.args.va c.args.len c.in-Some.span false (lowest_cut book c.in-Some.span.first (c.in-Some.span.first + c.in-Some.span.count))
    (search rules) c.in-Some.ensures (sym c.if-not-is_inside.ensures) refl))

pub returns-clause-legal : goal.returns-clause-legal
returns-clause-legal g c =
    let last = c.in-Some.span.first + c.in-Some.span.count in
    let some : Some c.in_ok-block.block ≡ find (is_cut c.in-Some.span.first last) c.self.inside.blocks.items =
    c.in_ok-block.ensures ∙ ap (λ (xs : List Block). find (is_cut c.in-Some.span.first last) xs) c.deref.ensures.value in
    (found_is (IsLegalBlock g.F.Format.layout) (is_cut c.in-Some.span.first last) c.self.inside.blocks.items c.in_ok-block.block c.self.invariant.1 some).0

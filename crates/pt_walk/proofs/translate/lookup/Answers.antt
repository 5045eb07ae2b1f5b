use Rattle.std.proofs.Common.{◌∙◌, refl, sym, ap, arith}
use Rattle.std.specs.Prelude.{Some, None}
use Rattle.pt_view.specs.declared.view.View.{View}
use Rattle.pt_view.specs.Views.{book_of}
use Rattle.pt_walk.specs.Walks.{OwnsAll}
use Rattle.pt_walk.proofs.Books.{leaf_of, owns_all, value_found, value_nowhere}
use Rattle.pt_walk.proofs.Bytes.{outside_is, translation_is}
use Rattle.pt_walk.proofs.translate.lookup.Given.{Over}
use Rattle.pt_walk.proofs.translate.lookup.Goals as goal
use Rattle.pt_walk.proofs.translate.lookup.Goals.{After-page_in}

owns : (g : Over) (c : After-page_in g) → OwnsAll g.F.Format.layout (g.H.Holder.view c.args.holder.now)
owns g c =
    owns_all g.F.Format.layout g.met.F.Format.lawful_layout (g.H.Holder.view c.args.holder.now) c.requires.rest.0 c.range.ensures.levels c.requires.rest.1
    (c.range.ensures.lawful c.requires.rest.0 c.requires.rest.1)

pub returns-in_default-clause-outside : goal.returns-in_default-clause-outside
returns-in_default-clause-outside g c = λ blocks.
    let v : View = g.H.Holder.view c.args.holder.now in
    let first = c.range.ensures.first in
    let count = c.range.ensures.count in
    ((λ _. outside_is g.F.Format.layout (book_of v blocks) c.args.address (λ page h. let low = h.1 in let high = h.2 in c.in_default.ensures page (h.0, omega arith, omega arith))), (λ _. refl))

pub leaf_over-requires-clause-asked : goal.leaf_over-requires-clause-asked
leaf_over-requires-clause-asked g c =
    let first = c.range.ensures.first in
    let count = c.range.ensures.count in
    let within = c.range.ensures.within in
    let low = c.in-Some.ensures.1 in
    let high = c.in-Some.ensures.2 in
    record {
      a_page = omega arith;
      in_span = (omega arith, omega arith);
      owns = owns g (goal.at.leaf_over-requires-clause-asked g c).After-page_in;
    }

pub value_under-requires-clause-a_leaf : goal.value_under-requires-clause-a_leaf
value_under-requires-clause-a_leaf g c =
    let f = g.F.Format.layout in
    let found = c.in-Some-leaf_over.ensures.found in
    let leaf = leaf_of f g.met.F.Format.lawful_layout (g.H.Holder.view c.args.holder.now) c.in-Some.page c.in-Some-leaf_over.leaf.level c.in-Some-leaf_over.leaf.word
    (owns g (goal.at.value_under-requires-clause-a_leaf g c).After-page_in) found in
    (leaf.log2, found.piece.block.prot, record { out = found.piece.block.out; part = leaf.part; may = leaf.may; word_is = leaf.word_is })

pub returns-in-Some-leaf_over-clause-found : goal.returns-in-Some-leaf_over-clause-found
returns-in-Some-leaf_over-clause-found g c = λ blocks rest.
    let f = g.F.Format.layout in
    let v : View = g.H.Holder.view c.args.holder.now in
    let found = c.in-Some-leaf_over.ensures.found in
    let b = found.piece.block in
    let leaf = leaf_of f g.met.F.Format.lawful_layout v c.in-Some.page c.in-Some-leaf_over.leaf.level c.in-Some-leaf_over.leaf.word
    (owns g (goal.at.returns-in-Some-leaf_over-clause-found g c).After-page_in) found in
    ap Some (c.value_under.ensures b.first leaf.log2 b.out leaf.part b.prot leaf.may leaf.word_is leaf.under)
    ∙ sym (translation_is f (book_of v blocks) c.args.address c.in-Some.page _ c.in-Some.ensures.0
    (value_found f g.met.F.Format.lawful_layout v blocks rest c.in-Some.page c.range.ensures.levels (c.range.ensures.lawful blocks rest) c.in-Some-leaf_over.leaf.level c.in-Some-leaf_over.leaf.word found))

pub returns-in-None-clause-found : goal.returns-in-None-clause-found
returns-in-None-clause-found g c = λ blocks rest.
    let f = g.F.Format.layout in
    let v : View = g.H.Holder.view c.args.holder.now in
    sym (translation_is f (book_of v blocks) c.args.address c.in-Some.page None c.in-Some.ensures.0
    (value_nowhere f g.met.F.Format.lawful_layout v blocks rest c.in-Some.page c.in-None.ensures.found))

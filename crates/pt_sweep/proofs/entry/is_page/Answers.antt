use Rattle.std.proofs.Common.{sym, ◌∙◌}
use Rattle.std.proofs.lemmas.Bool.{eqb-true}
use Rattle.pt_sweep.proofs.OneEntry.{leaf_of, page_leaf}
use Rattle.pt_sweep.proofs.entry.is_page.Goals as goal

pub out_of-out-requires-clause-a_leaf : goal.out_of-out-requires-clause-a_leaf
out_of-out-requires-clause-a_leaf g c = (_, _, leaf_of c.requires.some.1)

pub prot_of-prot-requires : goal.prot_of-prot-requires
prot_of-prot-requires g c = record { a_leaf = (_, _, leaf_of c.requires.some.1) }

pub leaf_word-requires : goal.leaf_word-requires
leaf_word-requires g c =
    page_leaf g.met.F.Format.lawful_layout c.requires.some.1 c.out_of-out.ensures.within (c.prot_of-prot.ensures _ _ (leaf_of c.requires.some.1))

pub returns : goal.returns
returns g c = λ t b is.
    let may = page_leaf g.met.F.Format.lawful_layout is c.out_of-out.ensures.within (c.prot_of-prot.ensures _ _ (leaf_of is)) in
    (g.met.F.Format.words_differ.one_size 0 b.log2 0 b.out c.out_of-out.result is.part 0 b.prot c.prot_of-prot.result is.may may
    (sym is.word_is ∙ sym (eqb-true c.leaf_word.result c.args.word t) ∙ c.leaf_word.ensures)).0

use Rattle.std.proofs.Common.{◌∙◌, sym}
use Rattle.pt_format.proofs.FourKibWords.{leaf_by_size, pointer_by_size}
use Rattle.pt_format.proofs.four_kib.FourKibFormat.is_leaf.Goals as goal

pub returns-else-level-eq0-clause-leaf : goal.returns-else-level-eq0-clause-leaf
returns-else-level-eq0-clause-leaf g c = λ set.
    leaf_by_size g.met.E.FourKibTables.are_tables c.args.level c.args.word (sym c.has_page_size.ensures ∙ set) c.requires.written

pub returns-else-level-eq0-clause-pointer : goal.returns-else-level-eq0-clause-pointer
returns-else-level-eq0-clause-pointer g c = λ clear.
    pointer_by_size g.met.E.FourKibTables.are_tables c.args.level c.args.word c.if-level-eq0.false
    (λ set. clear (c.has_page_size.ensures ∙ set)) c.requires.written

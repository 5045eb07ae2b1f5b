use Rattle.std.proofs.Common.{◌∙◌, sym}
use Rattle.std.proofs.lemmas.Bool.{both_ways, true_from_ne_false, not_from_false, not_from_true}
use Rattle.fmt_vmsa.proofs.VmsaCode.{leaf_by_kind, pointer_by_kind}
use Rattle.fmt_vmsa.proofs.instances.VmsaFormat.is_leaf.Goals as goal

pub returns-else-level-eq0-clause-leaf : goal.returns-else-level-eq0-clause-leaf
returns-else-level-eq0-clause-leaf g c = λ block.
    leaf_by_kind g.bound-1.is_granule c.args.level c.args.word
    (λ kind. both_ways _ (not_from_true c.has_table.result (c.has_table.ensures ∙ kind)) block) c.requires.written

pub returns-else-level-eq0-clause-pointer : goal.returns-else-level-eq0-clause-pointer
returns-else-level-eq0-clause-pointer g c = λ block.
    pointer_by_kind g.bound-1.is_granule c.args.level c.args.word c.if-level-eq0.false
    (sym c.has_table.ensures ∙ true_from_ne_false c.has_table.result (λ kind. block (not_from_false c.has_table.result kind))) c.requires.written

use Rattle.std.proofs.Common.{sym, ◌∙◌, refl, arith}
use Rattle.pt_format.proofs.Permissions.{both_by_bit, read_by_bit}
use Rattle.fmt_vtdss.specs.VtdWords.{of_leaf}
use Rattle.fmt_vtdss.proofs.entry.EntryEntryBits.permission.Goals as goal

pub returns-then-contains-clause-of_leaf : goal.returns-then-contains-clause-of_leaf
returns-then-contains-clause-of_leaf c = both_by_bit of_leaf 2 (omega arith) refl refl c.args.self.now.0 (sym (c.contains.ensures tt) ∙ c.if-contains.true)

pub returns-else-contains-clause-of_leaf : goal.returns-else-contains-clause-of_leaf
returns-else-contains-clause-of_leaf c = read_by_bit of_leaf 2 (omega arith) refl refl c.args.self.now.0 (sym (c.contains.ensures tt) ∙ c.if-contains.false)

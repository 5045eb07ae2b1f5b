use Rattle.std.proofs.Common.{◌+◌, ◌%◌, inl, inr}
use Rattle.std.proofs.lemmas.Bool.{leb-true, cases_lt, le-leb}
use Rattle.fmt_amdv1.proofs.AmdCode.{leaf_by_next, pointer_by_next}
use Rattle.fmt_amdv1.proofs.instances.AmdV1Format.is_leaf.Goals as goal

pub returns-clause-leaf : goal.returns-clause-leaf
returns-clause-leaf c = λ set. leaf_by_next c.args._level c.args.word (rw c.next_level_in.ensures.next at (leb-true _ _ set)) c.requires.written

pub returns-clause-pointer : goal.returns-clause-pointer
returns-clause-pointer c = λ clear. elim (cases_lt 1 ((c.next_level_in.result + 1) % 8)) [
  | inl above ↦ pointer_by_next c.args._level c.args.word (rw c.next_level_in.ensures.next at above) c.requires.written
  | inr low ↦ absurd (clear (le-leb _ _ low))
]

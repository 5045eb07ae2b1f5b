use Rattle.std.proofs.Common.{◌≡◌, ◌∙◌, ap, sym, subst}
use Rattle.pt_format.specs.Words.{IsLeaf}
use Rattle.fmt_vmsa.specs.VmsaWords.{layout, size_of}
use Rattle.fmt_vmsa.specs.VmsaSizes.{entry_of, leaf_of}
use Rattle.fmt_vmsa.proofs.VmsaCode.{group_bit}
use Rattle.fmt_vmsa.proofs.instances.VmsaFormat.read_word.Goals as goal

pub returns-in-Some : goal.returns-in-Some
returns-in-Some g c =
    let is = g.bound-1.is_granule in
    let x = rw c.LOG2.ensures at c.in-Some.ensures.2 in
    let size : c.size_in.result ≡ size_of g.bound-1.LOG2 c.args.level c.in-Some.ensures.1 =
    (rw c.LOG2-in-Some.ensures at c.size_in.ensures) ∙ ap (size_of g.bound-1.LOG2 c.args.level) (group_bit is x) in
    subst (λ k. IsLeaf (layout g.bound-1.LOG2) c.args.level c.args.word k c.in-Some.prot) (sym size) (leaf_of is x)

pub returns-in-None : goal.returns-in-None
returns-in-None g c = record {
  not_empty = c.if-word-eq0.false;
  no_pointer = λ address at frame e.
      (rw c.LOG2-2.ensures at c.in-None.ensures) address (record { above = at.above; below = at.below; a_frame = frame; word_is = e });
  no_leaf = λ log2 out part prot may e. (rw c.LOG2.ensures at c.in_default.ensures) _ prot _ (entry_of g.bound-1.is_granule may c.args.word e);
}

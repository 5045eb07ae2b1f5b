use Rattle.std.proofs.Common.{subst, sym}
use Rattle.pt_format.specs.Words.{IsLeaf}
use Rattle.fmt_amdv1.specs.AmdWords.{layout}
use Rattle.fmt_amdv1.specs.AmdLaws.{leaf_of, pointer_of}
use Rattle.fmt_amdv1.proofs.AmdCode.{leaf_from}
use Rattle.fmt_amdv1.proofs.instances.AmdV1Format.read_word.Goals as goal

pub returns-in-Some : goal.returns-in-Some
returns-in-Some c =
    let x = c.in-Some.ensures in
    subst (IsLeaf layout c.args.level c.args.word c.in-Some.log2)
    (sym (c.permission_in.ensures.of_leaf c.args.level c.in-Some.log2 x.0 x.1 x.2)) (leaf_from x.2)

pub returns-in-None : goal.returns-in-None
returns-in-None c = record {
  not_empty = c.if-word-eq0.false;
  no_pointer = λ address at frame e. c.in-None.ensures address (pointer_of at frame c.args.word e);
  no_leaf = λ log2 out part prot may e. c.in_default.ensures log2 out prot (leaf_of may c.args.word e);
}

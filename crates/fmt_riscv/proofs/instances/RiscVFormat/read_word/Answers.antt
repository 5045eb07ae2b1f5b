use Rattle.std.proofs.Common.{arith}
use Rattle.fmt_riscv.specs.RiscvLaws.{a_single, a_sixteen, leaf_word}
use Rattle.fmt_riscv.proofs.RiscvCode.{single_leaf}
use Rattle.fmt_riscv.proofs.instances.RiscVFormat.read_word.Goals as goal

pub returns-in-Some : goal.returns-in-Some
returns-in-Some g c = single_leaf g.bound-1.are_levels c.requires c.in-Some.ensures.1

pub returns-in-None : goal.returns-in-None
returns-in-None g c = record {
  not_empty = c.if-word-eq0.false;
  no_pointer = λ address at frame e. omega (arith, at.above, c.if-level-eq0.true);
  no_leaf = λ log2 out part prot may e. elim (leaf_word g.bound-1.are_levels c.args.level log2 out part c.args.word prot may e).0 [
    | a_single s x ↦ c.in_default.ensures out prot x
    | a_sixteen z s x ↦ c.in-None.ensures out prot x
  ];
}

pub returns-in-None-read_pointer : goal.returns-in-None-read_pointer
returns-in-None-read_pointer g c = record {
  not_empty = c.if-word-eq0.false;
  no_pointer = λ address at frame e. c.in-None-read_pointer.ensures address (record { above = at.above; a_frame = frame; word_is = e });
  no_leaf = λ log2 out part prot may e. elim (leaf_word g.bound-1.are_levels c.args.level log2 out part c.args.word prot may e).0 [
    | a_single s x ↦ c.in_default.ensures out prot x
    | a_sixteen z s x ↦ c.if-level-eq0.false z
  ];
}

use Rattle.std.proofs.Common.{◌≡◌, ◌∙◌}
use Rattle.std.proofs.lemmas.Bool.{both_ways}
use Rattle.fmt_riscv.proofs.RiscvCode.{single_number}
use Rattle.fmt_riscv.proofs.words.read_single.Goals as goal
use Rattle.fmt_riscv.proofs.words.read_single.Goals.{else-is_aligned-via-then-is_aligned+else-word-single_word, else-is_aligned-via-else-is_aligned}

pub returns-else-is_aligned : goal.returns-else-is_aligned
returns-else-is_aligned c = λ out prot is.
    let o : c.number_in-out.result ≡ out = c.number_in-out.ensures.number ∙ single_number is in
    let p : c.permission_in-prot.result ≡ prot = c.permission_in-prot.ensures.of_leaf.of_single c.args.level out prot is in
    elim c.else-is_aligned.branch [
      | else-is_aligned-via-then-is_aligned+else-word-single_word w ↦
          let same : c.args.word ≡ w.single_word.result = cc (is.word_is, o, p, w.single_word.ensures) in
          w.if-word-single_word.false same
      | else-is_aligned-via-else-is_aligned w ↦
          both_ways c.is_aligned.result w.if-is_aligned.false (c.is_aligned.ensures.1 (rw o is.aligned))
    ]

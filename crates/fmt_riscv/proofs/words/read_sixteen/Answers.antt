use Rattle.std.proofs.Common.{◌≡◌, ◌-◌, ◌%◌, ◌∙◌, arith}
use Rattle.fmt_riscv.proofs.RiscvCode.{sixteen_number}
use Rattle.fmt_riscv.proofs.words.read_sixteen.Goals as goal
use Rattle.fmt_riscv.proofs.words.read_sixteen.Goals.{else-number-eq8-via-then-number-eq8+else-word-sixteen_word, else-number-eq8-via-else-number-eq8}

pub returns-else-number-eq8 : goal.returns-else-number-eq8
returns-else-number-eq8 c = λ out prot is.
    let n = c.number_in-number.ensures.number ∙ sixteen_number is in
    let o : c.number_in-number.result - 8 ≡ out = omega (arith, n) in
    let p : c.permission_in-prot.result ≡ prot = c.permission_in-prot.ensures.of_leaf.of_sixteen out prot is in
    elim c.else-number-eq8.branch [
      | else-number-eq8-via-then-number-eq8+else-word-sixteen_word w ↦
          let same : c.args.word ≡ w.sixteen_word.result = cc (is.word_is, o, p, w.sixteen_word.ensures) in
          w.if-word-sixteen_word.false same
      | else-number-eq8-via-else-number-eq8 w ↦
          let is' : c.number_in-number.result % 16 ≡ 8 = omega (arith, n, is.aligned) in
          w.if-number-eq8.false is'
    ]

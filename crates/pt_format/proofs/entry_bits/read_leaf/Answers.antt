use Rattle.std.proofs.Common.{◌≡◌, ◌∙◌, arith}
use Rattle.std.proofs.lemmas.Bool.{both_ways}
use Rattle.pt_format.proofs.FourKibWords.{leaf_out}
use Rattle.pt_format.proofs.entry_bits.read_leaf.Goals as goal
use Rattle.pt_format.proofs.entry_bits.read_leaf.Goals.{else-level-lt3-via-then-level-lt3+then-is_aligned+else-word-leaf_word, else-level-lt3-via-then-level-lt3+else-is_aligned, else-level-lt3-via-else-level-lt3}

pub returns-else-level-lt3 : goal.returns-else-level-lt3
returns-else-level-lt3 g c = λ out prot is.
    let o : c.page_in-out.result ≡ out = c.page_in-out.ensures.page ∙ leaf_out g.met.E.EntryBits.are_bits is in
    let p : c.permission_in-prot.result ≡ prot = c.permission_in-prot.ensures.of_leaf c.args.level out prot is in
    elim c.else-level-lt3.branch [
      | else-level-lt3-via-then-level-lt3+then-is_aligned+else-word-leaf_word w ↦
          let same : c.args.word ≡ w.leaf_word.result = cc (is.word_is, o, p, w.leaf_word.ensures) in
          w.if-word-leaf_word.false same
      | else-level-lt3-via-then-level-lt3+else-is_aligned w ↦
          both_ways w.is_aligned.result w.if-is_aligned.false (w.is_aligned.ensures.1 (rw o is.aligned))
      | else-level-lt3-via-else-level-lt3 w ↦ omega (arith, is.low_level)
    ]

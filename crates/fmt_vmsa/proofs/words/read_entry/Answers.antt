use Rattle.std.proofs.Common.{◌≡◌, ◌∙◌}
use Rattle.std.proofs.lemmas.Bool.{both_ways}
use Rattle.fmt_vmsa.proofs.VmsaCode.{group_bit, own_page}
use Rattle.fmt_vmsa.proofs.words.read_entry.Goals as goal
use Rattle.fmt_vmsa.proofs.words.read_entry.Goals.{else-has_leaves-via-then-has_leaves+then-is_aligned+else-word-entry_word, else-has_leaves-via-then-has_leaves+else-is_aligned, else-has_leaves-via-else-has_leaves}

pub returns-else-has_leaves : goal.returns-else-has_leaves
returns-else-has_leaves c = λ own prot contiguous x.
    let is = c.requires.a_granule in
    let o : c.page_in-own.result ≡ own = c.page_in-own.ensures.page ∙ own_page is x in
    let p : c.permission_in-prot.result ≡ prot = c.permission_in-prot.ensures.of_leaf _ _ own prot contiguous is x in
    elim c.else-has_leaves.branch [
      | else-has_leaves-via-then-has_leaves+then-is_aligned+else-word-entry_word w ↦
          let g : w.is_contiguous.result ≡ contiguous = w.is_contiguous.ensures ∙ group_bit is x in
          let same : c.args.word ≡ w.entry_word.result = cc (x.word_is, o, p, g, w.entry_word.ensures) in
          w.if-word-entry_word.false same
      | else-has_leaves-via-then-has_leaves+else-is_aligned w ↦
          both_ways w.is_aligned.result w.if-is_aligned.false (w.is_aligned.ensures.1 (rw (o, w.entry_size.ensures.size) x.aligned))
      | else-has_leaves-via-else-has_leaves w ↦ both_ways c.has_leaves.result w.if-has_leaves.false (c.has_leaves.ensures ∙ x.at_leaves)
    ]

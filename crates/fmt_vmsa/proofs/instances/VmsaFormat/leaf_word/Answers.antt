use Rattle.std.proofs.Common.{◌≡◌, ◌+◌, ap, ◌∙◌}
use Rattle.std.specs.Prelude.{◌==◌, not}
use Rattle.fmt_vmsa.specs.VmsaWords.{entry_size, entry_word}
use Rattle.fmt_vmsa.proofs.VmsaCode.{part_pages}
use Rattle.fmt_vmsa.proofs.instances.VmsaFormat.leaf_word.Goals as goal

pub returns : goal.returns
returns g c =
    let size : c.entry_size-size.result ≡ entry_size g.bound-1.LOG2 c.args.level =
    c.entry_size-size.ensures.size ∙ ap (λ n. entry_size n c.args.level) c.LOG2.ensures in
    (rw (c.LOG2-2.ensures, size) at c.entry_word.ensures)
    ∙ ap (λ n. entry_word g.bound-1.LOG2 c.args.level (c.args.out + n) c.args.prot (not (c.args.log2 == entry_size g.bound-1.LOG2 c.args.level)))
    (part_pages g.bound-1.is_granule c.requires)

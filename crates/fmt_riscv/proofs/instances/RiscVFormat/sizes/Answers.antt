use Rattle.std.proofs.Common.{sym, subst}
use Rattle.pt_format.specs.Words.{HasSizes}
use Rattle.fmt_riscv.specs.RiscvWords.{layout}
use Rattle.fmt_riscv.proofs.RiscvCode.{high_mask, low_mask}
use Rattle.fmt_riscv.proofs.instances.RiscVFormat.sizes.Goals as goal

pub returns-then-level-eq0 : goal.returns-then-level-eq0
returns-then-level-eq0 g c =
    subst (λ l. HasSizes (layout g.bound-1.COUNT) l 0x11) (sym c.if-level-eq0.true) (low_mask g.bound-1.are_levels)

pub returns-else-level-eq0 : goal.returns-else-level-eq0
returns-else-level-eq0 g c =
    rw c.entry_pages.ensures (high_mask g.bound-1.are_levels c.args.level c.if-level-eq0.false c.requires)

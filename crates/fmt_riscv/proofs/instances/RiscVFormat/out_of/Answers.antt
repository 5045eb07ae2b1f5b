use Rattle.std.proofs.Common.{◌∙◌, sym}
use Rattle.fmt_riscv.proofs.RiscvCode.{single_output, single_within, sixteen_output}
use Rattle.fmt_riscv.proofs.instances.RiscVFormat.out_of.Goals as goal

pub returns-then-is_of_sixteen-clause-page : goal.returns-then-is_of_sixteen-clause-page
returns-then-is_of_sixteen-clause-page g c =
    rw c.number_in-number.ensures.number
    (sixteen_output g.bound-1.are_levels c.args.level c.args.word c.args.page (sym c.is_of_sixteen.ensures ∙ c.if-is_of_sixteen.true))

pub returns-else-is_of_sixteen-clause-page : goal.returns-else-is_of_sixteen-clause-page
returns-else-is_of_sixteen-clause-page g c =
    rw (c.number_in-number.ensures.number, c.entry_pages.ensures)
    (single_output g.bound-1.are_levels c.args.level c.args.word c.args.page (sym c.is_of_sixteen.ensures ∙ c.if-is_of_sixteen.false))

pub returns-else-is_of_sixteen-clause-within : goal.returns-else-is_of_sixteen-clause-within
returns-else-is_of_sixteen-clause-within g c =
    let l = c.requires.a_leaf in
    rw (c.number_in-number.ensures.number, c.entry_pages.ensures)
    (single_within g.bound-1.are_levels c.args.level c.args.word c.args.page l.0 l.1 (sym c.is_of_sixteen.ensures ∙ c.if-is_of_sixteen.false) l.2)

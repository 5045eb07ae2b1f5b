use Rattle.std.proofs.Common.{sym, ap, ◌∙◌}
use Rattle.pt_image.specs.Headers.{name_at}
use Rattle.iopt.specs.Resumed.{HasFormatOf, other_format, other_frames, some_hold}
use Rattle.iopt.proofs.Numbers.{one_number_of}
use Rattle.iopt.proofs.resuming.first_difference.Goals as goal
use Rattle.iopt.proofs.resuming.first_difference.Goals.{then-header-number_of-via-then-header-number_of, then-header-number_of-via-else-header-number_of+then-header-script}

pub returns-then-header-number_of-clause-first : goal.returns-then-header-number_of-clause-first
returns-then-header-number_of-clause-first c = elim c.then-header-number_of.branch [
  | then-header-number_of-via-then-header-number_of w ↦
      other_format (λ (same : HasFormatOf c.args.header.now c.args.script.now).
      w.if-header-number_of.true (one_number_of c.args.header.now.number c.number_of.result c.args.script.now.format same.format c.number_of.ensures.number))
  | then-header-number_of-via-else-header-number_of+then-header-script w ↦
      other_format (λ (same : HasFormatOf c.args.header.now c.args.script.now). w.if-header-script.true (sym same.levels))
]

pub returns-then-header-script-2-clause-first : goal.returns-then-header-script-2-clause-first
returns-then-header-script-2-clause-first c =
    other_frames (record { format = ap name_at c.if-header-number_of.false ∙ c.number_of.ensures.number; levels = sym c.if-header-script.false })
    (λ e. c.if-header-script-2.true (sym e))

pub returns-then-script-ne0-clause-first : goal.returns-then-script-ne0-clause-first
returns-then-script-ne0-clause-first c =
    some_hold (record { format = ap name_at c.if-header-number_of.false ∙ c.number_of.ensures.number; levels = sym c.if-header-script.false })
    (sym c.if-header-script-2.false) c.if-script-ne0.true

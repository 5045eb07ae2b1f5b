use Rattle.std.proofs.Common.{sym, ◌∙◌}
use Rattle.iopt.proofs.Numbers.{is_known}
use Rattle.iopt.proofs.resuming.resume_by.Goals as goal

pub unreachable-requires : goal.unreachable-requires
unreachable-requires g c = is_known c.args.header.now c.requires.fields.name c.requires.fields.name_is (sym c.format_of.ensures ∙ c.in_default.is)

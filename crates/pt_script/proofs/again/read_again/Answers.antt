use Rattle.std.proofs.Common.{subst, ◌∙◌}
use Rattle.pt_script.specs.Text.{IsErrorOf}
use Rattle.pt_script.specs.Scripts.{lines_in}
use Rattle.pt_script.proofs.again.read_again.Goals as goal

pub unreachable-requires : goal.unreachable-requires
unreachable-requires c =
    let bad = subst (IsErrorOf c.deref.result.now) c.in-Err-Bad.field-0-is c.in-Err-Bad.ensures.bad in
    c.bad_is_no_script.ensures c.deref.result.now c.in-Err-Bad.field-0-0 c.in-Err-Bad.field-0-1 bad (lines_in c.args.script.now) c.args.script.now.lawful (c.deref.ensures.value ∙ c.in_ok-text.ensures)

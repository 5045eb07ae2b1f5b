use Rattle.pt_script.specs.Scripts.{lines_in}
use Rattle.iopt.proofs.running.scripts_are_not_refused.Goals as goal

pub returns : goal.returns
returns c text line reason script bad = c.bad_is_no_script.ensures text line reason bad (lines_in script.0) script.0.lawful script.1

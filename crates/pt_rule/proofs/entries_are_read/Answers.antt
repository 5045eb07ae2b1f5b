use Rattle.pt_rule.proofs.Laws.{entries_are_read, readings_tell}
use Rattle.pt_rule.proofs.entries_are_read.Goals as goal

pub returns-clause-entries : goal.returns-clause-entries
returns-clause-entries c = entries_are_read

pub returns-clause-readings : goal.returns-clause-readings
returns-clause-readings c = readings_tell

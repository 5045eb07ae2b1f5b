use Rattle.pt_run.proofs.PlainFacts.{nested_body, plain_too}
use Rattle.pt_made.proofs.Names.{numbers_of}
use Rattle.pt_made.specs.Formats.{machine_in}
use Rattle.pt_run.proofs.laws.shared_run_is_plain.Goals as goal

pub returns : goal.returns
returns c script replies run none =
    plain_too script replies run
    (c.one_text.ensures (machine_in script) script.body script.tail run.lines (numbers_of script.format).pages
    (nested_body script (c.scripts_are_legal.ensures script)) none run.uncovered)

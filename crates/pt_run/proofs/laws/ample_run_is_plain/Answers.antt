use Rattle.pt_run.proofs.PlainFacts.{nested_body, no_frames, plain_too}
use Rattle.pt_made.proofs.Names.{numbers_of}
use Rattle.pt_made.specs.Formats.{machine_in}
use Rattle.pt_run.proofs.laws.ample_run_is_plain.Goals as goal

pub returns : goal.returns
returns c script replies run enough =
    let legal = c.scripts_are_legal.ensures script in
    let ample = c.hold_is_ample.ensures (machine_in script) script.hold script.body script.tail run.lines (numbers_of script.format).pages
    (nested_body script legal) legal.few_held enough run.uncovered in
    record { plain_too = plain_too script replies run ample.one_text; no_frames = no_frames script replies run ample.no_frames }

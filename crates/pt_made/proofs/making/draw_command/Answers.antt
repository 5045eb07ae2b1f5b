use Rattle.std.proofs.Common.{◌+◌, arith}
use Rattle.pt_made.proofs.Pages.{first_small}
use Rattle.pt_made.proofs.making.draw_command.Goals as goal

pub what_by-requires-clause-a_page : goal.what_by-requires-clause-a_page
what_by-requires-clause-a_page g c =
    let few = first_small g.met.F.Format.lawful_layout (c.args.branch + 1) (let low = c.requires in omega arith) in
    omega arith

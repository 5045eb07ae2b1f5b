use Rattle.std.proofs.Common.{refl, sym, ap, ◌∙◌, arith}
use Rattle.pt_model.specs.declared.block.Prot.TheVariants.{Read}
use Rattle.pt_model.specs.declared.command.What.{What}
use Rattle.pt_laws.specs.Need.{need_of_one}
use Rattle.pt_made.specs.Needing.{machine}
use Rattle.pt_made.proofs.Admitting.{refused_need}
use Rattle.pt_made.proofs.needing.need_of_one.Goals as goal

pub returns-in-Some-clause-few : goal.returns-in-Some-clause-few
returns-in-Some-clause-few g c = omega (arith, c.tables_needed.ensures Read, c.from.ensures)

pub returns-in-None-clause-need : goal.returns-in-None-clause-need
returns-in-None-clause-need g c =
    let m = machine g.F.Format.layout c.args.levels c.args.frames in
    sym (ap (λ (w : What). need_of_one (machine g.F.Format.layout c.args.levels c.args.frames) w) c.in-Map.is
    ∙ refused_need (machine g.F.Format.layout c.args.levels c.args.frames) c.in-Map.va c.in-Map.pa c.in-Map.len c.in-Map.prot (c.in-None.ensures.none refl c.args.levels))

use Rattle.std.proofs.Common.{[], ◌∷◌, subst}
use Rattle.pt_rule.specs.Lawful.{Lawful}
use Rattle.pt_plain.specs.Owner.{Owned}
use Rattle.pt_plain.proofs.Owners.{lawful_span}
use Rattle.pt_plain.proofs.plain.Plain.close.Goals as goal

pub returns-clause-lawful : goal.returns-clause-lawful
returns-clause-lawful g c = subst (λ (x : Owned). Lawful g.F.Format.layout x.view.frames x.view.levels c.self.inside.words.items (x.view ∷ [])) c.self.view_is
    (lawful_span c.self.invariant)

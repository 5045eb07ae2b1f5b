use Rattle.std.proofs.Common.{sym, subst}
use Rattle.pt_view.specs.declared.view.View.{View}
use Rattle.pt_view.specs.Calls.{FillsSpace, HasEveryFrame, HasFramesBelow}
use Rattle.pt_plain.specs.Owner.{Owned}
use Rattle.pt_plain.proofs.Laws.{Laws}
use Rattle.pt_plain.proofs.Owners.{span_whole}
use Rattle.pt_plain.proofs.TagCalls as tags
use Rattle.pt_plain.proofs.holder.PlainHolder.known_taken.Given.{Over}
use Rattle.pt_plain.proofs.holder.PlainHolder.known_taken.Goals as goal

laws : (g : Over) → Laws g.F.Format.layout
laws g = let law = g.met.F.Format in record { layout = law.lawful_layout; differ = law.words_differ; agree = law.steps_agree }

pub returns-clause-taken : goal.returns-clause-taken
returns-clause-taken g c =
    subst (λ (x : Owned). HasFramesBelow x.view c.self.inside.taken_below) c.self.view_is
    (subst (λ (v : View). HasFramesBelow v c.self.inside.taken_below) (sym (span_whole c.self.invariant)) c.self.invariant.taken)

pub returns-clause-all : goal.returns-clause-all
returns-clause-all g c = λ _. subst (λ (x : Owned). HasEveryFrame x.view → FillsSpace x.view x.aside) c.self.view_is (tags.every (laws g) c.self.invariant)

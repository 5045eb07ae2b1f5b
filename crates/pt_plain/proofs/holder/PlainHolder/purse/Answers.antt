use Rattle.std.proofs.Common.{◌≤◌, length, ap, sym, ◌∙◌, subst, arith}
use Rattle.pt_view.specs.Calls.{FitsSpace}
use Rattle.pt_plain.specs.Owner.{Owned}
use Rattle.pt_plain.proofs.Laws.{Laws}
use Rattle.pt_plain.proofs.TagCalls as tags
use Rattle.pt_plain.proofs.holder.PlainHolder.purse.Given.{Over}
use Rattle.pt_plain.proofs.holder.PlainHolder.purse.Goals as goal

laws : (g : Over) → Laws g.F.Format.layout
laws g = let law = g.met.F.Format in record { layout = law.lawful_layout; differ = law.words_differ; agree = law.steps_agree }

pub returns-clause-count : goal.returns-clause-count
returns-clause-count g c = sym (tags.held_is (laws g) c.self.invariant) ∙ ap (λ (x : Owned). length x.view.purse) c.self.view_is

pub returns-clause-few : goal.returns-clause-few
returns-clause-few g c = λ _. subst (λ (x : Owned). FitsSpace x.view x.aside) c.self.view_is (tags.few (laws g) c.self.invariant)

pub returns-clause-within : goal.returns-clause-within
returns-clause-within g c =
    let frames = tags.frames_are (laws g) c.self.invariant in
    let most = tags.held_few (laws g) c.self.invariant in
    subst (λ (x : Owned). c.self.inside.held ≤ x.view.frames) c.self.view_is (omega arith)

use Rattle.std.proofs.Common.{subst, sym}
use Rattle.std.specs.Prelude.{IfOk}
use Rattle.iopt.specs.Runs.{IsMadeOf}
use Rattle.iopt.proofs.running.made_of.Goals as goal

pub returns-in-Beside : goal.returns-in-Beside
returns-in-Beside g c =
    subst (λ p. IfOk c.text_beside.result (λ made. IsMadeOf p c.args.script.now made.items)) (sym c.in-Beside.is) c.text_beside.ensures

pub returns-in-InTurn : goal.returns-in-InTurn
returns-in-InTurn g c =
    subst (λ p. IfOk c.text_in_turn.result (λ made. IsMadeOf p c.args.script.now made.items)) (sym c.in-InTurn.is) c.text_in_turn.ensures

pub returns-in-Image : goal.returns-in-Image
returns-in-Image g c =
    subst (λ p. IfOk c.image_for.result (λ made. IsMadeOf p c.args.script.now made.items)) (sym c.in-Image.is) c.image_for.ensures

use Rattle.std.proofs.Common.{◌≡◌, sym, subst, refl}
use Rattle.std.specs.Prelude.{IfOk}
use Rattle.pt_space.specs.Standing.{Standing}
use Rattle.pt_beside.specs.Places.{IsAnswered, MayAsk, StaysIn}
use Rattle.pt_shared.specs.Parts.{place_of}
use Rattle.pt_shared.proofs.Answering.{answers_all, built, rested}
use Rattle.pt_shared.proofs.part.SharedPart.answer.Goals as goal

pub returns-clause-stays : goal.returns-clause-stays
returns-clause-stays g c =
    let f = g.F.Format.layout in
    let s = c.lease-lease.result in
    let t = c.answer-answered.new.holder in
    let said = c.answer-answered.ensures in
    subst (λ (x : Standing). StaysIn (place_of f x) (place_of f c.of.result)) c.lease-lease.ensures.same
    (subst (λ (y : Standing). StaysIn (place_of f s) (place_of f y)) (sym c.of.ensures)
    (rested f s t c.args.what c.answer-answered.result said.stays.same_space said.answers said.rests).stays)

pub returns-clause-answers : goal.returns-clause-answers
returns-clause-answers g c =
    let f = g.F.Format.layout in
    let s = c.lease-lease.result in
    let t = c.answer-answered.new.holder in
    let said = c.answer-answered.ensures in
    let ask = subst (λ (x : Standing). MayAsk (place_of f x) c.args.what) (sym c.lease-lease.ensures.same) c.requires in
    subst (λ (x : Standing). IfOk c.answer-answered.result (IsAnswered (place_of f x) (place_of f c.of.result) c.args.what)) c.lease-lease.ensures.same
    (subst (λ (y : Standing). IfOk c.answer-answered.result (IsAnswered (place_of f s) (place_of f y) c.args.what)) (sym c.of.ensures)
    (answers_all f s t c.args.what c.answer-answered.result ask said.answers (λ alone. said.alone alone refl)))

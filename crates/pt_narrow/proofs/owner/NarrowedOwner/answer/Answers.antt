use Rattle.std.proofs.Common.{◌≡◌, Some, None, sym, subst}
use Rattle.pt_narrow.specs.Standing.{Answers, IsStanding, Stand, outside_answer, place_of, stand_of}
use Rattle.pt_narrow.proofs.Commands.{AnswersWith, answers_with, outside_tellable, refused_outside, stands_by}
use Rattle.pt_narrow.proofs.owner.NarrowedOwner.answer.Given.{Over}
use Rattle.pt_narrow.proofs.owner.NarrowedOwner.answer.Goals as goal
use Rattle.pt_narrow.proofs.owner.NarrowedOwner.answer.Goals.{After-answer, In-Some}

pub returns-in-Some : goal.returns-in-Some
returns-in-Some g c =
    let f = g.F.Format.layout in
    let o = c.self.inside in
    let s : Stand = stand_of o.plain o.first o.count o.cuts.items in
    let said : outside_answer f o.first o.count c.args.what ≡ Some c.in-Some.refused = sym c.in-Some.ensures in
    let done : Answers (place_of f c.args.self.now) (place_of f c.args.self.now) c.args.what c.in-Some.refused =
    subst (λ (x : Stand). Answers (place_of f x) (place_of f x) c.args.what c.in-Some.refused) c.self.view_is
    (refused_outside f s c.self.invariant c.args.what c.in-Some.refused said) in
    record {
      stays = done.stays;
      answers = done.answers;
      book = done.book;
      told = outside_tellable f o.first o.count c.args.what c.in-Some.refused said;
    }

module _ (g : Over) (c : After-answer g) where
  abbrev s : Stand
  s = stand_of c.self.inside.plain c.self.inside.first c.self.inside.count c.self.inside.cuts.items

  abbrev now : Stand
  now = record s { owned = c.answer.new.holder }

  inside : outside_answer g.F.Format.layout s.first s.count c.args.what ≡ None
  inside = sym c.in_default-outside_answer.ensures

  stands : IsStanding g.F.Format.layout now
  stands =
      let e = c.answer.ensures in
      stands_by g.F.Format.layout s c.self.invariant now.owned e.stays.same_aside c.args.what inside c.requires c.in_default.not-Dump
      c.answer.result g.met.F.Format.lawful_layout.has_pages (e.alone tt c.self.invariant.aside) e.rests

  abbrev AnswersFrom : Stand → Type 0
  AnswersFrom x = AnswersWith g.F.Format.layout (place_of g.F.Format.layout x) (place_of g.F.Format.layout now) c.args.what c.answer.result

  answers : AnswersFrom c.args.self.now
  answers =
      let e = c.answer.ensures in
      subst AnswersFrom c.self.view_is
      (answers_with g.F.Format.layout s c.self.invariant now.owned e.stays.same_aside c.args.what inside c.requires c.in_default.not-Dump
      c.answer.result (e.alone tt c.self.invariant.aside) e.rests e.tellable)

pub invariant_of-self : goal.invariant_of-self
invariant_of-self g c = stands g c

pub returns : goal.returns
returns g c = let done = answers g c in record { stays = done.stays; answers = done.answers; book = done.book; told = done.told }

use Rattle.std.proofs.Common.{◌≡◌, ◌<◌, ap, sym, ◌∙◌, subst, arith}
use Rattle.std.specs.Prelude.{min}
use Rattle.pt_model.specs.Layout.{Layout, pages_of_table}
use Rattle.pt_format.specs.Laws.{IsLayout}
use Rattle.pt_tile.specs.declared.extent.Extent.{Extent}
use Rattle.pt_tile.specs.Extents.{up_to}
use Rattle.pt_map.specs.Absent.{MaySurvey, Surveyed}
use Rattle.pt_map.proofs.NearRoot.{may_survey, surveyed_far, surveyed_near}
use Rattle.pt_map.proofs.PastRoot.{reach_is}
use Rattle.pt_map.proofs.beyond.survey_near.Given.{Over}
use Rattle.pt_map.proofs.beyond.survey_near.Goals as goal
use Rattle.pt_map.proofs.beyond.survey_near.Goals.{After-up_to}

good : (g : Over) → IsLayout g.F.Format.layout
good g = g.met.F.Format.lawful_layout

module _ (g : Over) (c : After-up_to g) where
  abbrev f : Layout
  f = g.F.Format.layout

  within : c.args.extent.first < pages_of_table f c.args.root
  within = let e = reach_is (good g) c.requires.may.extent c.args.root c.spine_end-reach.ensures c.requires.may.past in let b = c.if-extent-reach.true in omega arith

  part_is : c.up_to.result ≡ up_to c.args.extent (pages_of_table f c.args.root)
  part_is =
      let e = reach_is (good g) c.requires.may.extent c.args.root c.spine_end-reach.ensures c.requires.may.past in let past = c.requires.may.past in
      let end : min c.spine_end-reach.result c.args.extent.end ≡ pages_of_table f c.args.root = omega arith in
      c.up_to.ensures ∙ ap (up_to c.args.extent) end

pub survey-requires : goal.survey-requires
survey-requires g c =
    subst (λ (y : Extent). MaySurvey g.F.Format.layout (g.H.Holder.view c.args.holder.now) y c.args.root c.args.cap) (sym (part_is g c))
    (may_survey (good g) c.requires.may (within g c) c.requires.cap)

pub returns-then-extent-reach-clause-surveyed : goal.returns-then-extent-reach-clause-surveyed
returns-then-extent-reach-clause-surveyed g c =
    let u = (goal.at.returns-then-extent-reach-clause-surveyed g c).After-up_to in
    surveyed_near (good g) c.requires.may (within g u)
    (subst (λ (y : Extent). Surveyed g.F.Format.layout g.H.Holder.tells (g.H.Holder.alone c.args.holder.now) (g.H.Holder.view c.args.holder.now) (g.H.Holder.view c.survey.new.holder) y c.args.root c.args.cap c.survey.result)
    (part_is g u) c.survey.ensures.surveyed)

pub returns-else-extent-reach-clause-surveyed : goal.returns-else-extent-reach-clause-surveyed
returns-else-extent-reach-clause-surveyed g c =
    let e = reach_is (good g) c.requires.may.extent c.args.root c.spine_end-reach.ensures c.requires.may.past in let b = c.if-extent-reach.false in
    surveyed_far (good g) c.requires.may (omega arith)

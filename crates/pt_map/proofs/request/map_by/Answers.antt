use Rattle.std.proofs.Common.{◌≡◌, ◌+◌, false, arith, ◌∙◌}
use Rattle.std.proofs.lemmas.Result.{err_from_is_err_and}
use Rattle.pt_walk.specs.Walks.{IsFree}
use Rattle.pt_tile.specs.Extents.{tables_below, tiles}
use Rattle.pt_map.specs.Replaced.{HasNoneReplaced}
use Rattle.pt_map.specs.Absent.{Counted}
use Rattle.pt_map.proofs.MapFromTable.{lack_below, mapped_below, may_fill, may_make, none_kept, occupied_below}
use Rattle.pt_map.proofs.request.map_by.Given.{Over}
use Rattle.pt_map.proofs.request.map_by.Goals.{In-Absent}
use Rattle.pt_map.proofs.request.map_by.Goals as goal

-- what the look found where no page is mapped
module _ (g : Over) (c : In-Absent g) where
  pub found : IsFree g.F.Format.layout (g.H.Holder.view c.args.holder.now) c.args.extent.first c.args.extent.end
      × Counted g.F.Format.layout g.H.Holder.tells (g.H.Holder.alone c.args.holder.now) (g.H.Holder.view c.args.holder.now) (g.H.Holder.view c.survey_by.new.holder)
      (tables_below g.F.Format.layout c.args.extent c.args.level) (c.from-cap.result + 1) c.in-Absent.count
      × (c.in-Absent.tables ≡ false → HasNoneReplaced g.F.Format.layout (g.H.Holder.view c.args.holder.now) (tiles g.F.Format.layout c.args.extent))
  found = c.in-Absent.ensures.surveyed.finds

  pub cap_is : c.from-cap.result + 1 ≡ (g.H.Holder.view c.args.holder.now).frames + 1
  cap_is = let from = c.from-cap.ensures in let count = c.frames.ensures.count in omega arith

pub returns-in-Mapped-clause-ends : goal.returns-in-Mapped-clause-ends
returns-in-Mapped-clause-ends g c =
    let look = c.in-Mapped.ensures.surveyed in
    occupied_below look.walked look.path c.byte_of.ensures look.finds

pub gather-requires : goal.gather-requires
gather-requires g c = c.survey_by.ensures.surveyed.walked.prepared ∙ c.requires.may.stands.none

pub returns-in_err-gather-in-Absent-clause-ends : goal.returns-in_err-gather-in-Absent-clause-ends
returns-in_err-gather-in-Absent-clause-ends g c =
    let at = (goal.at.returns-in_err-gather-in-Absent-clause-ends g c).In-Absent in
    let look = c.survey_by.ensures in
    let h = found g at in
    let p = err_from_is_err_and c.from_residual.result c.from_residual.ensures.1 in
    rw (p.1, p.2)
    (lack_below g.met.F.Format.lawful_layout c.requires.may look.surveyed.walked look.surveyed.path c.in_err-gather-in-Absent.ensures.gathers.0 h.1 h.0 (cap_is g at)
    look.stays.still_alone look.stays.same_aside
    c.in_err-gather-in-Absent.field-0.0 c.in_err-gather-in-Absent.ensures.gathers.1)

pub make_way-requires-clause-may : goal.make_way-requires-clause-may
make_way-requires-clause-may g c =
    let look = c.survey_by.ensures in
    may_make g.met.F.Format.lawful_layout c.requires.may look.surveyed.walked look.surveyed.path c.in_ok-gather-in-Absent.ensures.gathers.0 (found g (goal.at.make_way-requires-clause-may g c).In-Absent).0

pub make_way-requires-clause-none : goal.make_way-requires-clause-none
make_way-requires-clause-none g c = λ none.
    let look = c.survey_by.ensures in
    none_kept g.met.F.Format.lawful_layout c.requires.may look.surveyed.walked look.surveyed.path c.in_ok-gather-in-Absent.ensures.gathers.0 ((found g (goal.at.make_way-requires-clause-none g c).In-Absent).2 none)

pub fill_by-requires-clause-may : goal.fill_by-requires-clause-may
fill_by-requires-clause-may g c =
    let at = (goal.at.fill_by-requires-clause-may g c).In-Absent in
    let look = c.survey_by.ensures in
    let h = found g at in
    let got = c.in_ok-gather-in-Absent.ensures in
    may_fill g.met.F.Format.lawful_layout c.requires.may look.surveyed.walked look.surveyed.path got.gathers.0 h.1 h.0 (cap_is g at)
    look.stays.still_alone look.stays.same_aside
    got.gathers.1 (λ a. got.stays.still_alone (look.stays.still_alone a)) c.make_way.ensures.unlinks

pub returns-in_ok-gather-in-Absent-clause-ends : goal.returns-in_ok-gather-in-Absent-clause-ends
returns-in_ok-gather-in-Absent-clause-ends g c =
    let at = (goal.at.returns-in_ok-gather-in-Absent-clause-ends g c).In-Absent in
    let look = c.survey_by.ensures in
    let h = found g at in
    let got = c.in_ok-gather-in-Absent.ensures in
    mapped_below g.met.F.Format.lawful_layout c.requires.may look.surveyed.walked look.surveyed.path got.gathers.0 h.1 h.0 (cap_is g at)
    look.stays.still_alone look.stays.same_aside
    got.gathers.1 (λ a. got.stays.still_alone (look.stays.still_alone a)) c.make_way.ensures.unlinks c.fill_by.ensures.fills

use Rattle.std.proofs.Common.{◌≡◌, ℕ, ◌+◌, ◌-◌, ◌^◌, ◌≤◌, length, arith, ◌∙◌, ap}
use Rattle.std.specs.Prelude.{min}
use Rattle.std.proofs.lemmas.Result.{err_from_is_err_and}
use Rattle.pt_format.specs.Laws.{IsLayout}
use Rattle.pt_model.proofs.Tops.{power_mono}
use Rattle.pt_view.proofs.Stays.{stays_on}
use Rattle.pt_map.specs.Beyond.{FindsNear}
use Rattle.pt_map.specs.declared.survey.Found.TheVariants.{Absent}
use Rattle.pt_map.specs.Past.{past_root}
use Rattle.pt_map.proofs.NeededTables.{space_in_table}
use Rattle.pt_map.proofs.BeyondMapped.{lack_beyond, mapped_beyond, may_fill, may_make_way, may_raise, occupied_beyond}
use Rattle.pt_map.proofs.beyond.map_beyond.Given.{Over}
use Rattle.pt_map.proofs.beyond.map_beyond.Goals as goal
use Rattle.pt_map.proofs.beyond.map_beyond.Goals.{After-gather, In-Absent}

good : (g : Over) → IsLayout g.F.Format.layout
good g = g.met.F.Format.lawful_layout

-- what the look found where no page is mapped
module _ (g : Over) (c : In-Absent g) where
  pub found : FindsNear g.F.Format.layout g.H.Holder.tells (g.H.Holder.alone c.args.holder.now) (g.H.Holder.view c.args.holder.now) (g.H.Holder.view c.survey_near.new.holder)
      c.args.extent c.args.root (c.from-cap.result + 1) (Absent c.in-Absent.count c.in-Absent.tables)
  found = c.in-Absent.ensures.surveyed.finds

  pub cap_is : c.from-cap.result + 1 ≡ (g.H.Holder.view c.args.holder.now).frames + 1
  cap_is = let from = c.from-cap.ensures in let count = c.frames.ensures.count in omega arith

pub returns-in-Mapped-clause-ends : goal.returns-in-Mapped-clause-ends
returns-in-Mapped-clause-ends g c =
    let look = c.in-Mapped.ensures.surveyed in
    occupied_beyond look.walked look.path c.byte_of.ensures look.finds

-- so many frames are asked for
module _ (g : Over) (c : After-gather g) where
  abbrev look : In-Absent g
  look = (goal.at.After-gather g c).In-Absent

  pub levels_are : c.levels.result ≡ (g.H.Holder.view c.args.holder.now).levels
  levels_are = c.levels.ensures.levels ∙ c.survey_near.ensures.surveyed.walked.range.levels

  pub asks : c.min.result ≡ min (c.from-cap.result + 1) (c.in-Absent.count + length (past_root g.F.Format.layout (g.H.Holder.view c.args.holder.now).levels c.args.root c.args.extent))
  asks =
      let past : c.count_past-past.result ≡ length (past_root g.F.Format.layout (g.H.Holder.view c.args.holder.now).levels c.args.root c.args.extent) =
      c.count_past-past.ensures ∙ ap (λ (l : ℕ). length (past_root g.F.Format.layout l c.args.root c.args.extent)) levels_are in
      let sum = c.saturating_add.ensures in let least = c.min.ensures in let cap = c.from-cap.type_inv in omega arith

pub returns-in_err-gather-in-Absent-clause-ends : goal.returns-in_err-gather-in-Absent-clause-ends
returns-in_err-gather-in-Absent-clause-ends g c =
    let at = (goal.at.returns-in_err-gather-in-Absent-clause-ends g c).After-gather in
    let near = c.survey_near.ensures in
    let h = found g (look g at) in
    let p = err_from_is_err_and c.from_residual.result c.from_residual.ensures.1 in
    rw (p.1, p.2)
    (lack_beyond (good g) c.requires near.surveyed.walked near.surveyed.path c.in_err-gather-in-Absent.ensures.gathers.0 h.1 h.0 (cap_is g (look g at)) (asks g at)
    near.stays.still_alone near.stays.same_aside
    c.in_err-gather-in-Absent.field-0.0 c.in_err-gather-in-Absent.ensures.gathers.1)

pub make_way_near-requires : goal.make_way_near-requires
make_way_near-requires g c =
    let at = (goal.at.make_way_near-requires g c).After-gather in
    let near = c.survey_near.ensures in
    let h = found g (look g at) in
    record { may = may_make_way (good g) c.requires near.surveyed.walked near.surveyed.path c.in_ok-gather-in-Absent.ensures.gathers.0 h.0 h.2 }

pub top_over-requires-clause-within : goal.top_over-requires-clause-within
top_over-requires-clause-within g c = let input = c.requires.extent.in_input in let wide = space_in_table (good g) in omega arith

pub top_over-requires-clause-few : goal.top_over-requires-clause-few
top_over-requires-clause-few g c =
    let f = g.F.Format.layout in
    let input = c.requires.extent.in_input in let high = (good g).pages_high in
    let few : 2 ^ (f.input - f.granule) ≤ 2 ^ 52 = power_mono (f.input - f.granule) 52 (omega arith) in omega arith

pub raise-level-requires : goal.raise-level-requires
raise-level-requires g c =
    let at = (goal.at.raise-level-requires g c).After-gather in
    let near = c.survey_near.ensures in
    let h = found g (look g at) in
    let got = c.in_ok-gather-in-Absent.ensures.gathers in
    may_raise (good g) c.requires near.surveyed.walked near.surveyed.path got.0 h.1 h.0 (cap_is g (look g at)) (asks g at)
    near.stays.still_alone near.stays.same_aside got.1 (λ a. c.in_ok-gather-in-Absent.ensures.stays.still_alone (near.stays.still_alone a)) c.make_way_near.ensures.unlinks c.top_over.ensures

pub fill-requires : goal.fill-requires
fill-requires g c =
    let at = (goal.at.fill-requires g c).After-gather in
    let near = c.survey_near.ensures in
    let h = found g (look g at) in
    let got = c.in_ok-gather-in-Absent.ensures.gathers in
    may_fill (good g) c.requires near.surveyed.walked near.surveyed.path got.0 h.1 h.0 (cap_is g (look g at)) (asks g at)
    near.stays.still_alone near.stays.same_aside got.1 (λ a. c.in_ok-gather-in-Absent.ensures.stays.still_alone (near.stays.still_alone a)) c.make_way_near.ensures.unlinks c.top_over.ensures c.raise-level.ensures.raises

pub returns-in_ok-gather-in-Absent-clause-stays : goal.returns-in_ok-gather-in-Absent-clause-stays
returns-in_ok-gather-in-Absent-clause-stays g c =
    stays_on (stays_on (stays_on c.survey_near.ensures.stays c.in_ok-gather-in-Absent.ensures.stays) (stays_on c.make_way_near.ensures.stays c.raise-level.ensures.stays)) c.fill.ensures.stays

pub returns-in_ok-gather-in-Absent-clause-ends : goal.returns-in_ok-gather-in-Absent-clause-ends
returns-in_ok-gather-in-Absent-clause-ends g c =
    let at = (goal.at.returns-in_ok-gather-in-Absent-clause-ends g c).After-gather in
    let near = c.survey_near.ensures in
    let h = found g (look g at) in
    let got = c.in_ok-gather-in-Absent.ensures.gathers in
    mapped_beyond (good g) c.requires near.surveyed.walked near.surveyed.path got.0 h.1 h.0 (cap_is g (look g at)) (asks g at)
    near.stays.still_alone near.stays.same_aside got.1 (λ a. c.in_ok-gather-in-Absent.ensures.stays.still_alone (near.stays.still_alone a)) c.make_way_near.ensures.unlinks c.top_over.ensures c.raise-level.ensures.raises
    c.fill.ensures.fills

use Rattle.std.proofs.Common.{rules, ◌≡◌, Bool, true, false, ℕ, ◌*◌, ◌<◌, ◌≤◌, sym, ap, subst, ◌∙◌, refl, arith}
use Rattle.std.specs.Prelude.{◌||◌}
use Rattle.std.proofs.lemmas.Bool.{false≢true}
use Rattle.pt_view.specs.declared.view.View.{View}
use Rattle.pt_walk.specs.Walks.{IsFree}
use Rattle.pt_tile.specs.declared.extent.Extent.{Extent}
use Rattle.pt_tile.proofs.FirstParts.{first_from, first_to}
use Rattle.pt_tile.proofs.FirstSizes.{outputs_few, size_small}
use Rattle.pt_tile.proofs.RunTilings.{run_fits}
use Rattle.pt_map.proofs.AbsentShown.{level_high}
use Rattle.pt_map.proofs.AbsentCounted.{gone_all, gone_none, inner_entry, inner_to}
use Rattle.pt_map.proofs.SurveyFinds.{free_on_to, gone_on, only_none, only_on, may_survey_inner, may_survey_inside, may_survey_rest, may_survey_run, none_in_run, none_lowest, run_first, surveyed_empty, surveyed_entered, surveyed_inner, surveyed_leaf, surveyed_mapped, surveyed_run}
use Rattle.pt_view.proofs.Stays.{stays_here, stays_on}
use Rattle.pt_walk.proofs.Ranges.{range_enters, range_load}
use Rattle.pt_view.proofs.Loads.{some_path}
use Rattle.pt_map.proofs.survey.+survey.Goals as goal

-- by the index width of the code
large_by : (n index level k size : ℕ) → n ≡ index → k ≡ size → n * level ≤ k → index * level ≤ size
large_by n index level k size e is large = let same : n * level ≡ index * level = ap (λ (i : ℕ). i * level) e in omega arith

low_by : (n index level k size : ℕ) → n ≡ index → k ≡ size → k < n * level → size < index * level
low_by n index level k size e is low = let same : n * level ≡ index * level = ap (λ (i : ℕ). i * level) e in omega arith

-- The first block, or what lies under the first entry.

pub survey_first-overflow_shl-to : goal.survey_first-overflow_shl-to
survey_first-overflow_shl-to g t c =
    let small = size_small g.met.F.Format.lawful_layout c.requires.at.extent in
    let e = c.size_at-log2.ensures in omega arith

pub survey_first-overflow_add-to : goal.survey_first-overflow_add-to
survey_first-overflow_add-to g t c =
    let fits = run_fits g.met.F.Format.lawful_layout c.requires.at.extent c.run_under.ensures c.size_at-log2.result c.size_at-log2.ensures in omega arith

pub survey_first-look-requires-clause-may : goal.survey_first-look-requires-clause-may
survey_first-look-requires-clause-may g t c =
    let large = large_by c.INDEX.result g.F.Format.layout.index c.args.level c.size_at-log2.result _ (c.INDEX.ensures ∙ sym g.met.F.Format.has_constants.index_is) c.size_at-log2.ensures c.if-log2-INDEX.true in
    may_survey_run g.met.F.Format.lawful_layout c.requires c.size_at-log2.result c.size_at-log2.ensures c.run_under.ensures large _ refl c.up_to.result c.up_to.ensures

pub survey_first-look-requires-clause-none : goal.survey_first-look-requires-clause-none
survey_first-look-requires-clause-none g t c =
    let large = large_by c.INDEX.result g.F.Format.layout.index c.args.level c.size_at-log2.result _ (c.INDEX.ensures ∙ sym g.met.F.Format.has_constants.index_is) c.size_at-log2.ensures c.if-log2-INDEX.true in
    none_in_run g.met.F.Format.lawful_layout c.requires c.size_at-log2.result c.size_at-log2.ensures c.run_under.ensures large _ refl c.up_to.result c.up_to.ensures

pub survey_first-returns-then-log2-INDEX-clause-to : goal.survey_first-returns-then-log2-INDEX-clause-to
survey_first-returns-then-log2-INDEX-clause-to g t c =
    let large = large_by c.INDEX.result g.F.Format.layout.index c.args.level c.size_at-log2.result _ (c.INDEX.ensures ∙ sym g.met.F.Format.has_constants.index_is) c.size_at-log2.ensures c.if-log2-INDEX.true in
    run_first g.met.F.Format.lawful_layout c.requires c.size_at-log2.result c.size_at-log2.ensures c.run_under.ensures large _ refl

pub survey_first-returns-then-log2-INDEX-clause-surveyed : goal.survey_first-returns-then-log2-INDEX-clause-surveyed
survey_first-returns-then-log2-INDEX-clause-surveyed g t c =
    let large = large_by c.INDEX.result g.F.Format.layout.index c.args.level c.size_at-log2.result _ (c.INDEX.ensures ∙ sym g.met.F.Format.has_constants.index_is) c.size_at-log2.ensures c.if-log2-INDEX.true in
    surveyed_run g.met.F.Format.lawful_layout c.requires c.size_at-log2.result c.size_at-log2.ensures c.run_under.ensures large _ refl c.up_to.result c.up_to.ensures c.look.ensures.surveyed

pub survey_first-survey_under-requires : goal.survey_first-survey_under-requires
survey_first-survey_under-requires g t c κs within =
    let good = g.met.F.Format.lawful_layout in
    let low = low_by c.INDEX.result g.F.Format.layout.index c.args.level c.size_at-log2.result _ (c.INDEX.ensures ∙ sym g.met.F.Format.has_constants.index_is) c.size_at-log2.ensures c.if-log2-INDEX.false in
    let may = may_survey_inner good c.requires low c.under_entry-inner.result c.under_entry-inner.ensures in
    let entry = inner_entry good c.requires.at low c.under_entry-inner.result c.under_entry-inner.ensures in
    search (rules, may, entry)

pub survey_first-returns-clause-to : goal.survey_first-returns-clause-to
survey_first-returns-clause-to g t c =
    let low = low_by c.INDEX.result g.F.Format.layout.index c.args.level c.size_at-log2.result _ (c.INDEX.ensures ∙ sym g.met.F.Format.has_constants.index_is) c.size_at-log2.ensures c.if-log2-INDEX.false in
    inner_to g.met.F.Format.lawful_layout c.requires.at low c.under_entry-inner.result c.under_entry-inner.ensures

pub survey_first-returns-clause-surveyed : goal.survey_first-returns-clause-surveyed
survey_first-returns-clause-surveyed g t c =
    let low = low_by c.INDEX.result g.F.Format.layout.index c.args.level c.size_at-log2.result _ (c.INDEX.ensures ∙ sym g.met.F.Format.has_constants.index_is) c.size_at-log2.ensures c.if-log2-INDEX.false in
    surveyed_inner g.met.F.Format.lawful_layout c.requires low c.under_entry-inner.result c.under_entry-inner.ensures c.survey_under.ensures.surveyed

-- An extent under one entry.

pub survey_under-enter-requires : goal.survey_under-enter-requires
survey_under-enter-requires g t c = range_enters c.requires.may.at.range c.entry_number.result c.entry_number.ensures.number

pub survey_under-survey-found-requires : goal.survey_under-survey-found-requires
survey_under-survey-found-requires g t c κs within =
    let good = g.met.F.Format.lawful_layout in
    let may = may_survey_inside good c.requires.may c.requires.entry (range_load c.requires.may.at.range c.entry_number.ensures.number c.enter.ensures.went) c.in-Entered.is in
    let high : 0 < c.args.level = level_high good c.requires.may.at c.requires.entry in
    search (rules, may)

pub survey_under-leave-requires : goal.survey_under-leave-requires
survey_under-leave-requires g t c =
    some_path (range_load c.requires.may.at.range c.entry_number.ensures.number c.enter.ensures.went) c.in-Entered.is
    c.survey-found.ensures.surveyed.walked c.survey-found.ensures.surveyed.path

pub survey_under-returns-in-Entered-clause-surveyed : goal.survey_under-returns-in-Entered-clause-surveyed
survey_under-returns-in-Entered-clause-surveyed g t c =
    surveyed_entered g.met.F.Format.lawful_layout c.requires.may c.requires.entry (range_load c.requires.may.at.range c.entry_number.ensures.number c.enter.ensures.went) c.in-Entered.is
    c.enter.ensures.stays.still_alone c.survey-found.ensures.surveyed c.leave.ensures.left

pub survey_under-returns-in-Empty-clause-surveyed : goal.survey_under-returns-in-Empty-clause-surveyed
survey_under-returns-in-Empty-clause-surveyed g t c =
    surveyed_empty g.met.F.Format.lawful_layout c.requires.may c.requires.entry (range_load c.requires.may.at.range c.entry_number.ensures.number c.enter.ensures.went) c.in-Empty.is c.needed_below.result c.needed_below.ensures

pub survey_under-returns-in-Leaf-clause-surveyed : goal.survey_under-returns-in-Leaf-clause-surveyed
survey_under-returns-in-Leaf-clause-surveyed g t c =
    surveyed_leaf g.met.F.Format.lawful_layout c.requires.may c.requires.entry (range_load c.requires.may.at.range c.entry_number.ensures.number c.enter.ensures.went) c.in-Leaf.field-0 c.in-Leaf.is

-- The loop over the parts of an extent.

-- neither of two tests passes
or_false_parts : (a b : Bool) → (a || b) ≡ false → (a ≡ false) × (b ≡ false)
or_false_parts true b e = absurd (false≢true (sym e))
or_false_parts false b e = (refl, e)

pub survey-look-requires-clause-none : goal.survey-look-requires-clause-none
survey-look-requires-clause-none g t c = none_lowest g.F.Format.layout c.args.extent c.args.level c.if-level-eq0.true

pub survey-loop-rest-init : goal.survey-loop-rest-init
survey-loop-rest-init g t c = record {
  stays = stays_here;
  gone = gone_none g.F.Format.layout g.H.Holder.tells (g.H.Holder.alone c.args.holder.now) (g.H.Holder.view c.args.holder.now) c.args.extent c.args.level c.args.cap c.requires.at.extent.some;
  only = λ none p m h. h;
  free = λ page low high. absurd (omega arith);
}

pub survey-survey_first-looked-requires : goal.survey-survey_first-looked-requires
survey-survey_first-looked-requires g t c κs within =
    let may = may_survey_rest g.met.F.Format.lawful_layout c.requires c.loop-rest.invariant.gone c.loop-rest-test.true in
    search (rules, may)

pub survey-from-rest-requires-clause-end : goal.survey-from-rest-requires-clause-end
survey-from-rest-requires-clause-end g t c =
    let may = may_survey_rest g.met.F.Format.lawful_layout c.requires c.loop-rest.invariant.gone c.loop-rest-test.true in
    first_to g.met.F.Format.lawful_layout may.at.extent c.args.level c.survey_first-looked.result.to c.survey_first-looked.ensures.to

pub survey-from-rest-requires-clause-few : goal.survey-from-rest-requires-clause-few
survey-from-rest-requires-clause-few g t c =
    let may = may_survey_rest g.met.F.Format.lawful_layout c.requires c.loop-rest.invariant.gone c.loop-rest-test.true in
    let output = may.at.extent.in_output in
    let few = outputs_few g.F.Format.layout g.met.F.Format.lawful_layout in omega arith

pub survey-loop-rest-smaller : goal.survey-loop-rest-smaller
survey-loop-rest-smaller g t c =
    let may = may_survey_rest g.met.F.Format.lawful_layout c.requires c.loop-rest.invariant.gone c.loop-rest-test.true in
    let low = first_from g.met.F.Format.lawful_layout may.at.extent c.args.level c.survey_first-looked.result.to c.survey_first-looked.ensures.to in
    let end : c.from-rest.result.end ≡ c.loop-rest.rest.end = ap (λ (x : Extent). x.end) c.from-rest.ensures in
    let first : c.from-rest.result.first ≡ c.survey_first-looked.result.to = ap (λ (x : Extent). x.first) c.from-rest.ensures in
    let some = c.loop-rest-test.true in omega arith

pub survey-loop-rest-preserved : goal.survey-loop-rest-preserved
survey-loop-rest-preserved g t c =
    let good = g.met.F.Format.lawful_layout in
    let v : View = g.H.Holder.view c.args.holder.now in
    let i = c.loop-rest.invariant in
    let n = c.survey_first-looked.ensures in
    let first : c.from-rest.result.first ≡ c.survey_first-looked.result.to = ap (λ (x : Extent). x.first) c.from-rest.ensures in
    record {
      stays = stays_on i.stays n.stays;
      gone = gone_on good c.requires i.gone c.loop-rest-test.true i.stays.still_alone n.to i.free n.surveyed
          c.in-Absent.count c.in-Absent.tables c.in-Absent.is c.from-rest.result c.from-rest.ensures c.min-absent.result c.min-absent.ensures;
      only = λ none.
          let each = or_false_parts c.loop-rest.over_tables c.in-Absent.tables none in
          only_on good c.requires i.gone c.loop-rest-test.true i.stays.still_alone n.to i.free n.surveyed
          c.in-Absent.count c.in-Absent.tables c.in-Absent.is c.from-rest.result c.from-rest.ensures (i.only each.0) each.1;
      free = subst (λ (page : ℕ). IsFree g.F.Format.layout v c.args.extent.first page) (sym first)
          (free_on_to good c.requires i.gone c.loop-rest-test.true i.stays.still_alone n.to i.free n.surveyed c.in-Absent.count c.in-Absent.tables c.in-Absent.is);
    }

pub survey-returns-in-Mapped-clause-surveyed : goal.survey-returns-in-Mapped-clause-surveyed
survey-returns-in-Mapped-clause-surveyed g t c =
    let i = c.loop-rest.invariant in
    let n = c.survey_first-looked.ensures in
    surveyed_mapped g.met.F.Format.lawful_layout c.requires i.gone c.loop-rest-test.true i.stays.still_alone n.to i.free n.surveyed c.in-Mapped.page c.in-Mapped.is

pub survey-returns-clause-surveyed : goal.survey-returns-clause-surveyed
survey-returns-clause-surveyed g t c =
    let i = c.loop-rest.invariant in
    let past = c.loop-rest-test.false in
    let end = i.gone.end in
    record {
      walked = i.gone.walked;
      path = i.gone.path;
      finds = (
        (λ page low high. i.free page low (omega arith)),
        gone_all g.met.F.Format.lawful_layout c.requires.at i.gone (λ more. omega arith),
        (λ none. only_none g.F.Format.layout (g.H.Holder.view c.args.holder.now) c.args.extent c.loop-rest.rest (λ more. omega arith) (i.only none)),
      );
    }

-- The extent lies under one entry.

pub survey-survey_under-requires : goal.survey-survey_under-requires
survey-survey_under-requires g t c κs within =
    let may = c.requires in
    let entry = c.is_under_one.ensures c.if-is_under_one.true in
    search (rules, may, entry)

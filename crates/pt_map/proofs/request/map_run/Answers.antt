use Rattle.std.proofs.Common.{refl, sym, ◌∙◌}
use Rattle.std.proofs.lemmas.Bool.{false≢true}
use Rattle.pt_walk.specs.Walks.{IsFree}
use Rattle.pt_walk.proofs.Ranges.{under_free, under_mapped, under_nothing}
use Rattle.pt_map.proofs.MapFromTable.{occupied_below}
use Rattle.pt_map.proofs.OneBlock.{run_mapped, run_replaces_none, run_stores, run_way}
use Rattle.pt_map.proofs.request.map_run.Given.{Over}
use Rattle.pt_map.proofs.request.map_run.Goals.{In_default}
use Rattle.pt_map.proofs.request.map_run.Goals as goal

-- no page is mapped there
free : (g : Over) (c : In_default g) → IsFree g.F.Format.layout (g.H.Holder.view c.args.holder.now) c.args.extent.first c.args.extent.end
free g c = under_free g.F.Format.layout {v = g.H.Holder.view c.args.holder.now} {w = g.H.Holder.view c.args.holder.now} c.args.extent.first c.args.extent.end c.args.level c.look_below-under.result c.in_default.not-Mapped (record { pieces = refl; tables = refl; top = refl }) (c.look_below-under.ensures.under c.requires.may.clear)

pub make_way-requires-clause-may : goal.make_way-requires-clause-may
make_way-requires-clause-may g c =
    let first = c.look_below-under.ensures in
    run_way g.met.F.Format.lawful_layout c.requires.may c.requires.run first.walked first.path (free g (goal.at.make_way-requires-clause-may g c).In_default)

pub make_way-requires-clause-none : goal.make_way-requires-clause-none
make_way-requires-clause-none g c = λ none.
    let first = c.look_below-under.ensures in
    run_replaces_none g.met.F.Format.lawful_layout c.requires.may c.requires.run first.walked first.path (free g (goal.at.make_way-requires-clause-none g c).In_default)
    (under_nothing g.F.Format.layout (g.H.Holder.view c.args.holder.now) c.args.extent.first c.args.extent.end c.args.level c.look_below-under.result c.in_default.not-Mapped
    (λ tables. false≢true (sym none ∙ c.has_tables.ensures.1 tables)) (first.under c.requires.may.clear))

pub fill_run-requires-clause-may : goal.fill_run-requires-clause-may
fill_run-requires-clause-may g c =
    let first = c.look_below-under.ensures in
    run_stores g.met.F.Format.lawful_layout c.requires.may c.requires.run first.walked first.path (free g (goal.at.fill_run-requires-clause-may g c).In_default) c.make_way.ensures.unlinks

pub returns-in-Mapped-clause-ends : goal.returns-in-Mapped-clause-ends
returns-in-Mapped-clause-ends g c =
    let first = c.look_below-under.ensures in
    occupied_below first.walked first.path c.byte_of.ensures
    (under_mapped g.F.Format.layout c.args.extent.first c.args.extent.end c.args.level c.look_below-under.result c.in-Mapped.is (record { pieces = refl; tables = refl; top = refl }) (first.under c.requires.may.clear))

pub returns-clause-ends : goal.returns-clause-ends
returns-clause-ends g c =
    let first = c.look_below-under.ensures in
    run_mapped g.met.F.Format.lawful_layout c.requires.may c.requires.run first.walked first.path (free g (goal.at.returns-clause-ends g c).In_default) c.make_way.ensures.unlinks
    first.stays.still_alone first.stays.same_aside c.purse-held.ensures.few c.fill_run.ensures.fills

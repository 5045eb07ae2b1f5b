use Rattle.std.proofs.Common.{refl, sym, ◌∙◌}
use Rattle.std.proofs.lemmas.Bool.{false≢true}
use Rattle.pt_walk.specs.Walks.{IsFree}
use Rattle.pt_walk.proofs.Ranges.{under_free, under_mapped, under_nothing}
use Rattle.pt_map.proofs.MapFromTable.{occupied_below}
use Rattle.pt_map.proofs.OneBlock.{block_end, block_mapped, block_may, block_none, block_way}
use Rattle.pt_map.proofs.request.map_entry.Given.{Over}
use Rattle.pt_map.proofs.request.map_entry.Goals.{In_default}
use Rattle.pt_map.proofs.request.map_entry.Goals as goal

pub first_at-under-requires-clause-one : goal.first_at-under-requires-clause-one
first_at-under-requires-clause-one g c =
    block_end g.F.Format.layout g.met.F.Format.lawful_layout c.args.extent c.requires.may.stands.at.extent c.args.level c.args.log2 c.requires.block.size c.requires.one c.requires.block.whole

-- no page is mapped there
free : (g : Over) (c : In_default g) → IsFree g.F.Format.layout (g.H.Holder.view c.args.holder.now) c.args.extent.first c.args.extent.end
free g c = under_free g.F.Format.layout {v = g.H.Holder.view c.args.holder.now} {w = g.H.Holder.view c.args.holder.now} c.args.extent.first c.args.extent.end c.args.level c.first_at-under.result c.in_default.not-Mapped (record { pieces = refl; tables = refl; top = refl }) (c.first_at-under.ensures.under c.requires.may.clear)

pub put_entry-requires-clause-way : goal.put_entry-requires-clause-way
put_entry-requires-clause-way g c =
    let first = c.first_at-under.ensures in
    block_way g.met.F.Format.lawful_layout c.requires.may c.requires.block first.walked first.path (free g (goal.at.put_entry-requires-clause-way g c).In_default)

pub put_entry-requires-clause-none : goal.put_entry-requires-clause-none
put_entry-requires-clause-none g c = λ none.
    let first = c.first_at-under.ensures in
    block_none g.met.F.Format.lawful_layout c.requires.may c.requires.block first.walked first.path (free g (goal.at.put_entry-requires-clause-none g c).In_default)
    (under_nothing g.F.Format.layout (g.H.Holder.view c.args.holder.now) c.args.extent.first c.args.extent.end c.args.level c.first_at-under.result c.in_default.not-Mapped
    (λ tables. false≢true (sym none ∙ c.has_tables.ensures.1 tables)) (first.under c.requires.may.clear))

pub put_entry-requires-clause-may : goal.put_entry-requires-clause-may
put_entry-requires-clause-may g c = λ z unlinks.
    let first = c.first_at-under.ensures in
    block_may g.met.F.Format.lawful_layout c.requires.may c.requires.block first.walked first.path (free g (goal.at.put_entry-requires-clause-may g c).In_default) unlinks

pub returns-in-Mapped-clause-ends : goal.returns-in-Mapped-clause-ends
returns-in-Mapped-clause-ends g c =
    let first = c.first_at-under.ensures in
    occupied_below first.walked first.path c.byte_of.ensures
    (under_mapped g.F.Format.layout c.args.extent.first c.args.extent.end c.args.level c.first_at-under.result c.in-Mapped.is (record { pieces = refl; tables = refl; top = refl }) (first.under c.requires.may.clear))

pub returns-clause-ends : goal.returns-clause-ends
returns-clause-ends g c =
    let first = c.first_at-under.ensures in
    block_mapped g.met.F.Format.lawful_layout c.requires.may c.requires.block first.walked first.path (free g (goal.at.returns-clause-ends g c).In_default) c.put_entry.ensures.puts.unlinks
    first.stays.still_alone first.stays.same_aside c.purse-held.ensures.few c.put_entry.ensures.puts.stored

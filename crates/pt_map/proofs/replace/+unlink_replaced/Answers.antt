use Rattle.std.proofs.Common.{rules, ◌≡◌, ℕ, ◌*◌, ◌<◌, ◌≤◌, sym, ap, ◌∙◌, refl, arith}
use Rattle.pt_tile.specs.declared.extent.Extent.{Extent}
use Rattle.pt_tile.proofs.FirstParts.{first_from, first_to}
use Rattle.pt_tile.proofs.FirstSizes.{outputs_few, size_small}
use Rattle.pt_tile.proofs.RunTilings.{run_fits}
use Rattle.pt_view.proofs.Stays.{stays_here, stays_on}
use Rattle.pt_walk.proofs.Ranges.{range_enters, range_load}
use Rattle.pt_sweep.proofs.EmptyTables.{some_path}
use Rattle.pt_map.proofs.AbsentShown.{level_high}
use Rattle.pt_map.proofs.AbsentCounted.{inner_entry, inner_to}
use Rattle.pt_map.proofs.WayMade.{inner_unlinked, making_all, making_next, making_none, may_make_inner, may_make_inside, none_lowest, none_unlinked, run_empty, run_range, run_to, run_unlinked, unlinked_entered, unlinked_none}
use Rattle.pt_map.proofs.replace.+unlink_replaced.Goals as goal

-- by the index width of the code
large_by : (n index level k size : ℕ) → n ≡ index → k ≡ size → n * level ≤ k → index * level ≤ size
large_by n index level k size e is large = let same : n * level ≡ index * level = ap (λ (i : ℕ). i * level) e in omega arith

low_by : (n index level k size : ℕ) → n ≡ index → k ≡ size → k < n * level → size < index * level
low_by n index level k size e is low = let same : n * level ≡ index * level = ap (λ (i : ℕ). i * level) e in omega arith

-- The first block, or what lies under the first entry.

pub unlink_first-overflow_shl-to : goal.unlink_first-overflow_shl-to
unlink_first-overflow_shl-to g t c =
    let small = size_small g.met.F.Format.lawful_layout c.requires.at.extent in
    let e = c.size_at-log2.ensures in omega arith

pub unlink_first-overflow_add-to : goal.unlink_first-overflow_add-to
unlink_first-overflow_add-to g t c =
    let fits = run_fits g.met.F.Format.lawful_layout c.requires.at.extent c.run_under.ensures c.size_at-log2.result c.size_at-log2.ensures in omega arith

pub unlink_first-clear_tables-requires-clause-range : goal.unlink_first-clear_tables-requires-clause-range
unlink_first-clear_tables-requires-clause-range g t c =
    let large = large_by c.INDEX.result g.F.Format.layout.index c.args.level c.size_at-log2.result _ (c.INDEX.ensures ∙ sym g.met.F.Format.has_constants.index_is) c.size_at-log2.ensures c.if-log2-INDEX.true in
    run_range g.met.F.Format.lawful_layout c.requires c.size_at-log2.result c.size_at-log2.ensures c.run_under.ensures large _ refl

pub unlink_first-clear_tables-requires-clause-empty : goal.unlink_first-clear_tables-requires-clause-empty
unlink_first-clear_tables-requires-clause-empty g t c =
    let large = large_by c.INDEX.result g.F.Format.layout.index c.args.level c.size_at-log2.result _ (c.INDEX.ensures ∙ sym g.met.F.Format.has_constants.index_is) c.size_at-log2.ensures c.if-log2-INDEX.true in
    run_empty g.met.F.Format.lawful_layout c.requires c.size_at-log2.result c.size_at-log2.ensures c.run_under.ensures large _ refl c.levels-levels.result c.levels-levels.ensures.levels

pub unlink_first-returns-then-log2-INDEX-clause-to : goal.unlink_first-returns-then-log2-INDEX-clause-to
unlink_first-returns-then-log2-INDEX-clause-to g t c =
    let large = large_by c.INDEX.result g.F.Format.layout.index c.args.level c.size_at-log2.result _ (c.INDEX.ensures ∙ sym g.met.F.Format.has_constants.index_is) c.size_at-log2.ensures c.if-log2-INDEX.true in
    run_to g.met.F.Format.lawful_layout c.requires c.size_at-log2.result c.size_at-log2.ensures c.run_under.ensures large _ refl

pub unlink_first-returns-then-log2-INDEX-clause-unlinks : goal.unlink_first-returns-then-log2-INDEX-clause-unlinks
unlink_first-returns-then-log2-INDEX-clause-unlinks g t c =
    let large = large_by c.INDEX.result g.F.Format.layout.index c.args.level c.size_at-log2.result _ (c.INDEX.ensures ∙ sym g.met.F.Format.has_constants.index_is) c.size_at-log2.ensures c.if-log2-INDEX.true in
    run_unlinked g.met.F.Format.lawful_layout c.requires c.size_at-log2.result c.size_at-log2.ensures c.run_under.ensures large _ refl c.clear_tables.ensures.unlinks

pub unlink_first-unlink_under-requires : goal.unlink_first-unlink_under-requires
unlink_first-unlink_under-requires g t c κs within =
    let good = g.met.F.Format.lawful_layout in
    let low = low_by c.INDEX.result g.F.Format.layout.index c.args.level c.size_at-log2.result _ (c.INDEX.ensures ∙ sym g.met.F.Format.has_constants.index_is) c.size_at-log2.ensures c.if-log2-INDEX.false in
    let may = may_make_inner good c.requires low c.under_entry-inner.result c.under_entry-inner.ensures in
    let entry = inner_entry good c.requires.at low c.under_entry-inner.result c.under_entry-inner.ensures in
    search (rules, may, entry)

pub unlink_first-returns-else-log2-INDEX-clause-to : goal.unlink_first-returns-else-log2-INDEX-clause-to
unlink_first-returns-else-log2-INDEX-clause-to g t c =
    let low = low_by c.INDEX.result g.F.Format.layout.index c.args.level c.size_at-log2.result _ (c.INDEX.ensures ∙ sym g.met.F.Format.has_constants.index_is) c.size_at-log2.ensures c.if-log2-INDEX.false in
    inner_to g.met.F.Format.lawful_layout c.requires.at low c.under_entry-inner.result c.under_entry-inner.ensures

pub unlink_first-returns-else-log2-INDEX-clause-unlinks : goal.unlink_first-returns-else-log2-INDEX-clause-unlinks
unlink_first-returns-else-log2-INDEX-clause-unlinks g t c =
    let low = low_by c.INDEX.result g.F.Format.layout.index c.args.level c.size_at-log2.result _ (c.INDEX.ensures ∙ sym g.met.F.Format.has_constants.index_is) c.size_at-log2.ensures c.if-log2-INDEX.false in
    inner_unlinked g.met.F.Format.lawful_layout c.requires low c.under_entry-inner.result c.under_entry-inner.ensures c.unlink_under.ensures.unlinks

-- An extent under one entry.

pub unlink_under-enter-requires : goal.unlink_under-enter-requires
unlink_under-enter-requires g t c = range_enters c.requires.may.at.range c.entry_number.result c.entry_number.ensures.number

pub unlink_under-unlink_replaced-requires : goal.unlink_under-unlink_replaced-requires
unlink_under-unlink_replaced-requires g t c κs within =
    let good = g.met.F.Format.lawful_layout in
    let may = may_make_inside good c.requires.may c.requires.entry (range_load c.requires.may.at.range c.entry_number.ensures.number c.enter.ensures.went) c.in-Entered.is in
    let high : 0 < c.args.level = level_high good c.requires.may.at c.requires.entry in
    search (rules, may)

pub unlink_under-leave-requires : goal.unlink_under-leave-requires
unlink_under-leave-requires g t c =
    some_path (g.H.Holder.view c.unlink_replaced.new.holder) (range_load c.requires.may.at.range c.entry_number.ensures.number c.enter.ensures.went) c.in-Entered.is c.unlink_replaced.ensures.unlinks.path

pub unlink_under-returns-in-Entered-clause-unlinks : goal.unlink_under-returns-in-Entered-clause-unlinks
unlink_under-returns-in-Entered-clause-unlinks g t c =
    unlinked_entered g.met.F.Format.lawful_layout c.requires.may c.requires.entry (range_load c.requires.may.at.range c.entry_number.ensures.number c.enter.ensures.went) c.in-Entered.is
    c.enter.ensures.stays.still_alone c.unlink_replaced.ensures.unlinks c.leave.ensures.left

pub unlink_under-returns-in_default : goal.unlink_under-returns-in_default
unlink_under-returns-in_default g t c = record {
  stays = c.enter.ensures.stays;
  unlinks = unlinked_none g.met.F.Format.lawful_layout c.requires.may c.requires.entry (range_load c.requires.may.at.range c.entry_number.ensures.number c.enter.ensures.went) c.in_default.not-Entered;
}

-- The loop over the parts of an extent.

pub unlink_replaced-returns-then-level-eq0-clause-unlinks : goal.unlink_replaced-returns-then-level-eq0-clause-unlinks
unlink_replaced-returns-then-level-eq0-clause-unlinks g t c = none_unlinked _ (none_lowest g.met.F.Format.lawful_layout c.requires.at c.if-level-eq0.true)

pub unlink_replaced-loop-rest-init : goal.unlink_replaced-loop-rest-init
unlink_replaced-loop-rest-init g t c = record { stays = stays_here; making = making_none g.H.Holder.tells (g.H.Holder.alone c.args.holder.now) c.requires }

pub unlink_replaced-unlink_first-to-requires : goal.unlink_replaced-unlink_first-to-requires
unlink_replaced-unlink_first-to-requires g t c κs within =
    let may = c.loop-rest.invariant.making.may c.loop-rest-test.true in
    search (rules, may)

pub unlink_replaced-from-rest-requires-clause-end : goal.unlink_replaced-from-rest-requires-clause-end
unlink_replaced-from-rest-requires-clause-end g t c =
    let may = c.loop-rest.invariant.making.may c.loop-rest-test.true in
    first_to g.met.F.Format.lawful_layout may.at.extent c.args.level c.unlink_first-to.result c.unlink_first-to.ensures.to

pub unlink_replaced-from-rest-requires-clause-few : goal.unlink_replaced-from-rest-requires-clause-few
unlink_replaced-from-rest-requires-clause-few g t c =
    let may = c.loop-rest.invariant.making.may c.loop-rest-test.true in
    let output = may.at.extent.in_output in let few = outputs_few g.F.Format.layout g.met.F.Format.lawful_layout in omega arith

pub unlink_replaced-loop-rest-smaller : goal.unlink_replaced-loop-rest-smaller
unlink_replaced-loop-rest-smaller g t c =
    let may = c.loop-rest.invariant.making.may c.loop-rest-test.true in
    let low = first_from g.met.F.Format.lawful_layout may.at.extent c.args.level c.unlink_first-to.result c.unlink_first-to.ensures.to in
    let end : c.from-rest.result.end ≡ c.loop-rest.rest.end = ap (λ (x : Extent). x.end) c.from-rest.ensures in
    let first : c.from-rest.result.first ≡ c.unlink_first-to.result = ap (λ (x : Extent). x.first) c.from-rest.ensures in
    let some = c.loop-rest-test.true in omega arith

pub unlink_replaced-loop-rest-preserved : goal.unlink_replaced-loop-rest-preserved
unlink_replaced-loop-rest-preserved g t c =
    let h = c.loop-rest.invariant in
    let e = c.unlink_first-to.ensures in
    record {
      stays = stays_on h.stays e.stays;
      making = making_next g.met.F.Format.lawful_layout h.making h.stays.still_alone c.loop-rest-test.true c.unlink_first-to.result e.to e.unlinks c.from-rest.result c.from-rest.ensures;
    }

pub unlink_replaced-returns-clause-stays : goal.unlink_replaced-returns-clause-stays
unlink_replaced-returns-clause-stays g t c = c.loop-rest.invariant.stays

pub unlink_replaced-returns-clause-unlinks : goal.unlink_replaced-returns-clause-unlinks
unlink_replaced-returns-clause-unlinks g t c = making_all c.loop-rest.invariant.making (λ more. let none = c.loop-rest-test.false in omega arith)

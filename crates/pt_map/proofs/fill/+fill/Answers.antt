use Rattle.std.proofs.Common.{rules, ◌≡◌, ℕ, ◌+◌, ◌-◌, ◌*◌, ◌%◌, ◌^◌, ◌<◌, ◌≤◌, ap, sym, ◌∙◌, subst, arith}
use Rattle.pt_view.proofs.Stays.{stays_here, stays_on}
use Rattle.pt_model.specs.declared.block.Block.{Block}
use Rattle.pt_view.specs.declared.view.View.{View}
use Rattle.pt_tile.specs.declared.extent.Extent.{Extent}
use Rattle.pt_tile.proofs.FirstParts.{first_from, first_to}
use Rattle.pt_tile.proofs.FirstSizes.{outputs_few, size_small}
use Rattle.pt_tile.proofs.RunTilings.{run_fewer, run_fits}
use Rattle.pt_map.specs.Filled.{MayFill, MayStoreRun, StoresRun}
use Rattle.pt_map.proofs.FilledParts.{may_inside, may_into, may_leave, room_into, some_level}
use Rattle.pt_map.proofs.AbsentCounted.{inner_entry, inner_to}
use Rattle.pt_map.proofs.FillTurns.{fills_entry, fills_inner, fills_run, filling_all, filling_next, filling_none, lacking_below, may_fill_inner, may_fill_rest, may_run, run_leaves, to_run}
use Rattle.pt_map.proofs.fill.+fill.Goals as goal

-- The loop over the parts of an extent.

pub fill-loop-rest-init : goal.fill-loop-rest-init
fill-loop-rest-init g t c = record { stays = stays_here; filling = filling_none g.H.Holder.tells c.requires.store }

pub fill-fill_first-to-requires : goal.fill-fill_first-to-requires
fill-fill_first-to-requires g t c κs within =
    let v : View = g.H.Holder.view c.loop-rest.holder in
    let may : MayFill g.F.Format.layout v c.loop-rest.rest c.args.level = may_fill_rest g.met.F.Format.lawful_layout c.loop-rest.invariant.filling c.loop-rest-test.true c.requires in
    search (rules, may)

pub fill-from-rest-requires-clause-end : goal.fill-from-rest-requires-clause-end
fill-from-rest-requires-clause-end g t c =
    let may = c.loop-rest.invariant.filling.may c.loop-rest-test.true in
    first_to g.met.F.Format.lawful_layout may.stands.at.extent c.args.level c.fill_first-to.result c.fill_first-to.ensures.to

pub fill-from-rest-requires-clause-few : goal.fill-from-rest-requires-clause-few
fill-from-rest-requires-clause-few g t c =
    let may = c.loop-rest.invariant.filling.may c.loop-rest-test.true in
    let output = may.stands.at.extent.in_output in let few = outputs_few g.F.Format.layout g.met.F.Format.lawful_layout in omega arith

pub fill-loop-rest-smaller : goal.fill-loop-rest-smaller
fill-loop-rest-smaller g t c =
    let may = c.loop-rest.invariant.filling.may c.loop-rest-test.true in
    let low = first_from g.met.F.Format.lawful_layout may.stands.at.extent c.args.level c.fill_first-to.result c.fill_first-to.ensures.to in
    let end : c.from-rest.result.end ≡ c.loop-rest.rest.end = ap (λ (x : Extent). x.end) c.from-rest.ensures in
    let first : c.from-rest.result.first ≡ c.fill_first-to.result = ap (λ (x : Extent). x.first) c.from-rest.ensures in
    let some = c.loop-rest-test.true in omega arith

pub fill-loop-rest-preserved : goal.fill-loop-rest-preserved
fill-loop-rest-preserved g t c =
    let h = c.loop-rest.invariant in
    let e = c.fill_first-to.ensures in
    record {
      stays = stays_on h.stays e.stays;
      filling = filling_next g.met.F.Format.lawful_layout h.filling c.loop-rest-test.true c.fill_first-to.result e.to e.fills c.from-rest.result c.from-rest.ensures;
    }

pub fill-returns-clause-fills : goal.fill-returns-clause-fills
fill-returns-clause-fills g t c = filling_all g.met.F.Format.lawful_layout c.loop-rest.invariant.filling (λ more. let none = c.loop-rest-test.false in omega arith)

-- An extent under one entry.

pub fill_entry-go_into-requires-clause-may : goal.fill_entry-go_into-requires-clause-may
fill_entry-go_into-requires-clause-may g t c = may_into g.met.F.Format.lawful_layout c.requires.may.store c.requires.entry

pub fill_entry-go_into-requires-clause-room : goal.fill_entry-go_into-requires-clause-room
fill_entry-go_into-requires-clause-room g t c =
    (c.requires.may.lacking, room_into g.met.F.Format.lawful_layout c.requires.may.store c.requires.entry c.requires.may.lacking c.requires.may.room)

pub fill_entry-fill-requires : goal.fill_entry-fill-requires
fill_entry-fill-requires g t c κs within =
    let good = g.met.F.Format.lawful_layout in
    let lacking = lacking_below good c.requires.may c.requires.entry c.go_into.ensures.deeper c.go_into.ensures.spends in
    let may : MayFill g.F.Format.layout (g.H.Holder.view c.go_into.new.holder) c.args.extent (c.args.level - 1) =
    record { store = may_inside good c.requires.may.store c.requires.entry c.go_into.ensures.deeper; lacking = lacking.0; room = lacking.1 } in
    let high : 0 < c.args.level = some_level good c.requires.may.store c.requires.entry in
    search (rules, may)

pub fill_entry-leave-requires : goal.fill_entry-leave-requires
fill_entry-leave-requires g t c = may_leave g.met.F.Format.lawful_layout c.requires.may.store c.requires.entry c.go_into.ensures.deeper c.fill.ensures.fills.filled

pub fill_entry-returns-clause-fills : goal.fill_entry-returns-clause-fills
fill_entry-returns-clause-fills g t c =
    fills_entry g.met.F.Format.lawful_layout c.requires.may c.requires.entry c.go_into.ensures.deeper c.go_into.ensures.spends c.leave.ensures.left c.fill.ensures.fills

-- The first block, or what lies under the first entry.

-- by the index width of the code
high_by : (n index level k : ℕ) → n ≡ index → n * level ≤ k → index * level ≤ k
high_by n index level k e high = subst (λ (i : ℕ). i * level ≤ k) e high

low_by : (n index level k size : ℕ) → n ≡ index → k ≡ size → k < n * level → size < index * level
low_by n index level k size e is low = let same : n * level ≡ index * level = ap (λ (i : ℕ). i * level) e in omega arith

pub fill_first-word_run-run-requires-clause-some : goal.fill_first-word_run-run-requires-clause-some
fill_first-word_run-run-requires-clause-some g t c = c.run_under-count.ensures.some

pub fill_first-word_run-run-requires-clause-leaves : goal.fill_first-word_run-run-requires-clause-leaves
fill_first-word_run-run-requires-clause-leaves g t c =
    let high = high_by c.INDEX.result g.F.Format.layout.index c.args.level c.size_at-log2.result (c.INDEX.ensures ∙ sym g.met.F.Format.has_constants.index_is) c.if-log2-INDEX.true in
    run_leaves g.met.F.Format.lawful_layout c.requires.store c.size_at-log2.result c.size_at-log2.ensures high c.run_under-count.ensures

pub fill_first-write_run-requires-clause-may : goal.fill_first-write_run-requires-clause-may
fill_first-write_run-requires-clause-may g t c =
    let f = g.F.Format.layout in
    let good = g.met.F.Format.lawful_layout in
    let v : View = g.H.Holder.view c.args.holder.now in
    let extent = c.requires.store.stands.at.extent in
    let high = high_by c.INDEX.result f.index c.args.level c.size_at-log2.result (c.INDEX.ensures ∙ sym g.met.F.Format.has_constants.index_is) c.if-log2-INDEX.true in
    let run = run_fewer f good c.args.extent extent c.run_under-count.result c.word_run-run.result.blocks c.run_under-count.ensures c.word_run-run.ensures.some c.word_run-run.ensures.few in
    subst (λ (b : Block). MayStoreRun f v c.word_run-run.result.blocks b c.args.level) (sym c.block.ensures)
    (may_run good c.requires.store c.size_at-log2.result c.size_at-log2.ensures high run)

pub fill_first-overflow_shl-result : goal.fill_first-overflow_shl-result
fill_first-overflow_shl-result g t c =
    let small = size_small g.met.F.Format.lawful_layout c.requires.store.stands.at.extent in
    let e = c.size_at-log2.ensures in omega arith

pub fill_first-overflow_add-result : goal.fill_first-overflow_add-result
fill_first-overflow_add-result g t c =
    let good = g.met.F.Format.lawful_layout in
    let extent = c.requires.store.stands.at.extent in
    let run = run_fewer g.F.Format.layout good c.args.extent extent c.run_under-count.result c.word_run-run.result.blocks c.run_under-count.ensures c.word_run-run.ensures.some c.word_run-run.ensures.few in
    let fits = run_fits good extent run c.size_at-log2.result c.size_at-log2.ensures in omega arith

pub fill_first-returns-then-log2-INDEX-clause-to : goal.fill_first-returns-then-log2-INDEX-clause-to
fill_first-returns-then-log2-INDEX-clause-to g t c =
    let f = g.F.Format.layout in
    let good = g.met.F.Format.lawful_layout in
    let v : View = g.H.Holder.view c.args.holder.now in
    let extent = c.requires.store.stands.at.extent in
    let high = high_by c.INDEX.result f.index c.args.level c.size_at-log2.result (c.INDEX.ensures ∙ sym g.met.F.Format.has_constants.index_is) c.if-log2-INDEX.true in
    let run = run_fewer f good c.args.extent extent c.run_under-count.result c.word_run-run.result.blocks c.run_under-count.ensures c.word_run-run.ensures.some c.word_run-run.ensures.few in
    to_run good c.requires.store c.size_at-log2.result c.size_at-log2.ensures high run _ (let e : c.args.extent.first + c.word_run-run.result.blocks * 2 ^ c.size_at-log2.result % 2 ^ 64 ≡ c.args.extent.first + c.word_run-run.result.blocks * 2 ^ c.size_at-log2.result % 2 ^ 64 = omega arith in e)

pub fill_first-returns-then-log2-INDEX-clause-fills : goal.fill_first-returns-then-log2-INDEX-clause-fills
fill_first-returns-then-log2-INDEX-clause-fills g t c =
    let f = g.F.Format.layout in
    let good = g.met.F.Format.lawful_layout in
    let v : View = g.H.Holder.view c.args.holder.now in
    let extent = c.requires.store.stands.at.extent in
    let high = high_by c.INDEX.result f.index c.args.level c.size_at-log2.result (c.INDEX.ensures ∙ sym g.met.F.Format.has_constants.index_is) c.if-log2-INDEX.true in
    let run = run_fewer f good c.args.extent extent c.run_under-count.result c.word_run-run.result.blocks c.run_under-count.ensures c.word_run-run.ensures.some c.word_run-run.ensures.few in
    let w : View = g.H.Holder.view c.write_run.new.holder in
    fills_run good c.requires.store c.size_at-log2.result c.size_at-log2.ensures high run _
    (let e : c.args.extent.first + c.word_run-run.result.blocks * 2 ^ c.size_at-log2.result % 2 ^ 64 ≡ c.args.extent.first + c.word_run-run.result.blocks * 2 ^ c.size_at-log2.result % 2 ^ 64 = omega arith in e)
    (subst (λ (b : Block). StoresRun f g.H.Holder.tells v w c.word_run-run.result.blocks b) c.block.ensures c.write_run.ensures.stored)

pub fill_first-fill_entry-requires : goal.fill_first-fill_entry-requires
fill_first-fill_entry-requires g t c κs within =
    let good = g.met.F.Format.lawful_layout in
    let low = low_by c.INDEX.result g.F.Format.layout.index c.args.level c.size_at-log2.result _ (c.INDEX.ensures ∙ sym g.met.F.Format.has_constants.index_is) c.size_at-log2.ensures c.if-log2-INDEX.false in
    let may = may_fill_inner good c.requires low c.under_entry-inner.result c.under_entry-inner.ensures in
    let entry = inner_entry good c.requires.store.stands.at low c.under_entry-inner.result c.under_entry-inner.ensures in
    search (rules, may, entry)

pub fill_first-returns-else-log2-INDEX-clause-to : goal.fill_first-returns-else-log2-INDEX-clause-to
fill_first-returns-else-log2-INDEX-clause-to g t c =
    let low = low_by c.INDEX.result g.F.Format.layout.index c.args.level c.size_at-log2.result _ (c.INDEX.ensures ∙ sym g.met.F.Format.has_constants.index_is) c.size_at-log2.ensures c.if-log2-INDEX.false in
    inner_to g.met.F.Format.lawful_layout c.requires.store.stands.at low c.under_entry-inner.result c.under_entry-inner.ensures

pub fill_first-returns-else-log2-INDEX-clause-fills : goal.fill_first-returns-else-log2-INDEX-clause-fills
fill_first-returns-else-log2-INDEX-clause-fills g t c =
    let low = low_by c.INDEX.result g.F.Format.layout.index c.args.level c.size_at-log2.result _ (c.INDEX.ensures ∙ sym g.met.F.Format.has_constants.index_is) c.size_at-log2.ensures c.if-log2-INDEX.false in
    fills_inner g.met.F.Format.lawful_layout c.requires low c.under_entry-inner.result c.under_entry-inner.ensures c.fill_entry.ensures.fills

-- All of the extent lies under one entry.

pub fill-fill_entry-requires : goal.fill-fill_entry-requires
fill-fill_entry-requires g t c κs within =
    let may = c.requires in
    let entry = c.is_under_one.ensures c.if-is_under_one.true in
    search (rules, may, entry)

pub fill-from-rest-requires-clause-first : goal.fill-from-rest-requires-clause-first
fill-from-rest-requires-clause-first g t c =
    let may = c.loop-rest.invariant.filling.may c.loop-rest-test.true in
    let low = first_from g.met.F.Format.lawful_layout may.stands.at.extent c.args.level c.fill_first-to.result c.fill_first-to.ensures.to in omega arith

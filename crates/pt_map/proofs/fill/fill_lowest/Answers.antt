use Rattle.std.proofs.Common.{ℕ, ◌*◌, ◌≤◌, sym, ◌∙◌, subst, arith}
use Rattle.pt_tile.proofs.FirstSizes.{size_small}
use Rattle.pt_map.proofs.FillTurns.{all_run}
use Rattle.pt_map.proofs.fill.fill_lowest.Goals as goal

pub overflow_shl-count : goal.overflow_shl-count
overflow_shl-count g c =
    let small = size_small g.met.F.Format.lawful_layout c.requires.store.stands.at.extent in let e = c.size_at-log2.ensures in omega arith

pub fill_run-requires-clause-run : goal.fill_run-requires-clause-run
fill_run-requires-clause-run g c =
    let high = subst (λ (i : ℕ). i * c.args.level ≤ c.size_at-log2.result) (c.INDEX.ensures ∙ sym g.met.F.Format.has_constants.index_is) c.if-log2-INDEX.true in
    all_run g.met.F.Format.lawful_layout c.requires.store.stands.at.extent c.size_at-log2.ensures high c.run_under-count.ensures c.if-extent-count.true

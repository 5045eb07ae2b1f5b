use Rattle.std.proofs.Common.{◌≡◌, ℕ, arith, sym, ap, ◌∙◌}
use Rattle.pt_model.specs.Tables.{all_needed}
use Rattle.pt_model.specs.Tiling.{tiling}
use Rattle.pt_tile.specs.Counting.{levels_below}
use Rattle.pt_tile.proofs.Needed.{all_levels, below_more}
use Rattle.pt_tile.proofs.tables.count_tables.Goals as goal

pub loop-level-preserved : goal.loop-level-preserved
loop-level-preserved g c = record {
  few = omega (arith, c.loop-level.invariant.few, c.needed_at-needed.ensures.few);
  number = λ prot. omega (
    arith,
    c.loop-level.invariant.number prot,
    c.needed_at-needed.ensures.number prot,
    below_more c.loop-level.level (all_needed g.F.Format.layout c.args.levels (tiling g.F.Format.layout prot c.args.span.first c.args.out c.args.span.count)),
  );
}

pub returns : goal.returns
returns g c = λ prot.
    let levels : c.LEVELS-level-end.result ≡ g.F.Format.layout.levels = c.LEVELS-level-end.ensures ∙ sym g.met.F.Format.has_constants.levels_is in
    let last : c.loop-level.level ≡ g.F.Format.layout.levels = omega arith in
    let number : c.loop-level.needed ≡ levels_below g.F.Format.layout.levels (all_needed g.F.Format.layout c.args.levels (tiling g.F.Format.layout prot c.args.span.first c.args.out c.args.span.count)) =
    c.loop-level.invariant.number prot
    ∙ ap (λ (l : ℕ). levels_below l (all_needed g.F.Format.layout c.args.levels (tiling g.F.Format.layout prot c.args.span.first c.args.out c.args.span.count))) last in
    number ∙ (all_levels g.F.Format.layout g.met.F.Format.lawful_layout c.args.levels c.args.span.first c.args.out c.args.span.count prot
    c.requires.at_least c.requires.at_most c.requires.in_input c.requires.in_output)

use Rattle.std.proofs.Common.{◌≡◌, ◌+◌, ◌-◌, ◌*◌, ◌<◌, ◌≤◌, ℕ, arith, inl, inr, sym, ap, ◌∙◌, subst}
use Rattle.std.proofs.lemmas.Bool.{cases_lt, false≢true}
use Rattle.pt_model.specs.Tables.{least_top, all_needed}
use Rattle.pt_model.specs.Tiling.{tiling}
use Rattle.pt_tile.specs.Counting.{tables_over}
use Rattle.pt_tile.specs.Sizes.{IsLarger}
use Rattle.pt_model.proofs.Tops.{power_mono}
use Rattle.pt_tile.proofs.Levels.{size}
use Rattle.pt_tile.proofs.Needed.{IsRequest, level_counts, needed_below, none_at}
use Rattle.pt_tile.proofs.tables.needed_at.Goals as goal

pub tables_over-requires-clause-few : goal.tables_over-requires-clause-few
tables_over-requires-clause-few g c =
    let law = g.met.F.Format.lawful_layout in
    omega (arith, c.requires.in_input, power_mono (g.F.Format.layout.input - g.F.Format.layout.granule) 52 (omega (arith, law.pages_high)))

pub returns-then-is_above_top-clause-number : goal.returns-then-is_above_top-clause-number
returns-then-is_above_top-clause-number g c = λ prot.
    let law = g.met.F.Format.lawful_layout in
    let above : least_top g.F.Format.layout c.args.levels (c.args.span.first + c.args.span.count) < c.args.level = c.is_above_top.ensures.0 c.if-is_above_top.true in
    sym (none_at c.args.level (all_needed g.F.Format.layout c.args.levels (tiling g.F.Format.layout prot c.args.span.first c.args.out c.args.span.count))
    (λ p m e. omega (
      arith,
      above,
      e,
      needed_below g.F.Format.layout c.args.levels c.args.span.first c.args.out c.args.span.count prot law.has_pages
          (λ k a. omega (arith, law.sizes_low k a, c.requires.at_least, law.start_low)) c.requires.in_input c.requires.in_output p m,
    )))

pub returns-clause-number : goal.returns-clause-number
returns-clause-number g c = λ prot.
    let law = g.met.F.Format.lawful_layout in
    let request : IsRequest g.F.Format.layout c.args.levels c.args.level (c.args.span.first + c.args.span.count) = record {
      index_some = omega (arith, law.index_is, law.granule_low);
      level_in = c.requires.below;
      sizes_low = λ k a. omega (arith, law.sizes_low k a, c.requires.at_least, law.start_low);
      in_input = c.requires.in_input;
    } in
    let reach : c.args.level ≤ least_top g.F.Format.layout c.args.levels (c.args.span.first + c.args.span.count) =
    elim (cases_lt (least_top g.F.Format.layout c.args.levels (c.args.span.first + c.args.span.count)) c.args.level) [
      | inl above ↦ absurd (false≢true (sym c.if-is_above_top.false ∙ c.is_above_top.ensures.1 above))
      | inr within ↦ within
    ] in
    let index : c.INDEX.result * (c.args.level + 1) ≡ size g.F.Format.layout c.args.level =
    ap (λ (i : ℕ). i * (c.args.level + 1)) (c.INDEX.ensures ∙ sym g.met.F.Format.has_constants.index_is) in
    let larger : IsLarger g.F.Format.layout (size g.F.Format.layout c.args.level) c.args.span.first c.args.out c.larger_size-larger.result =
    subst (λ (t : ℕ). IsLarger g.F.Format.layout t c.args.span.first c.args.out c.larger_size-larger.result) index c.larger_size-larger.ensures.least in
    let tables : c.tables_over.result ≡ tables_over (size g.F.Format.layout c.args.level) c.args.span.first (c.args.span.first + c.args.span.count) c.larger_size-larger.result =
    c.tables_over.ensures.number ∙ ap (λ (t : ℕ). tables_over t c.args.span.first (c.args.span.first + c.args.span.count) c.larger_size-larger.result) index in
    ap (λ (n : ℕ). n + c.apart.result) tables
    ∙ sym (level_counts g.F.Format.layout c.args.levels c.args.level c.args.span.first c.args.out c.args.span.count c.apart.result prot
    c.larger_size-larger.result law.has_pages request reach c.requires.in_output (omega (arith, c.requires.some)) larger c.apart.ensures)

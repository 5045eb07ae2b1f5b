use Rattle.std.proofs.Common.{ℕ, ◌+◌, ◌≤◌, List, inl, inr, refl, sym, subst, ap, ◌∙◌, arith}
use Rattle.pt_model.specs.declared.position.Position.{Position}
use Rattle.pt_model.specs.Sets.{IsAmong}
use Rattle.pt_model.specs.Tables.{starting_top}
use Rattle.pt_model.specs.Book.{table_lies_in}
use Rattle.pt_view.specs.declared.view.Piece.{Piece}
use Rattle.pt_view.specs.Pieces.{IsOneOf}
use Rattle.pt_view.specs.Calls.{all_but_last}
use Rattle.pt_view.proofs.Loads.{loads_here, root_loads}
use Rattle.pt_walk.proofs.Ranges.{clear_root}
use Rattle.pt_sweep.specs.Empties.{lies_below}
use Rattle.pt_sweep.specs.Sweeps.{MaySweep, begins_in}
use Rattle.pt_sweep.proofs.Sweeps.{back_sweeps, loads_sweep, sweeps_as}
use Rattle.pt_sweep.proofs.SweptTables.{free_table, may_loads}
use Rattle.pt_sweep.proofs.BookTables.{less_tables, none_begin, none_lie, part_uncut, root_range, same_pieces, same_tables, swept_span}
use Rattle.pt_sweep.proofs.sweep.sweep_span.Given.{Over}
use Rattle.pt_sweep.proofs.sweep.sweep_span.Goals as goal
use Rattle.pt_sweep.proofs.sweep.sweep_span.Goals.{After-root-level}

-- the view at rest: its range without pages may be swept
whole : (g : Over) (c : After-root-level g) → MaySweep g.F.Format.layout (g.H.Holder.view c.args.holder.now) 0 0 c.levels-levels.result
whole g c =
    swept_span g.F.Format.layout g.met.F.Format.lawful_layout (g.H.Holder.view c.args.holder.now) c.requires.rest.0 c.range-inside.ensures.levels c.requires.rest.1
    (c.range-inside.ensures.lawful c.requires.rest.0 c.requires.rest.1) 0 0 c.levels-levels.result (λ x m. inr (inl (omega arith))) c.levels-levels.ensures.levels

top : (g : Over) (c : After-root-level g) → starting_top (g.H.Holder.view c.args.holder.now).levels ≤ c.root-level.result
top g c =
    let least = (c.range-inside.ensures.lawful c.requires.rest.0 c.requires.rest.1).top_least in
    let reaches = c.root-level.ensures.rooted.reaches in omega arith

pub sweep-pages-requires-clause-range : goal.sweep-pages-requires-clause-range
sweep-pages-requires-clause-range g c =
    let r = c.range-inside.ensures in
    let first = r.first in let count = r.count in let within = r.within in let to = c.requires.span.to in
    root_range g.met.F.Format.lawful_layout c.root-level.ensures.rooted c.args.span.first (c.args.span.first + c.args.span.count) c.min-end.result c.spine_end.result
    c.spine_end.ensures c.min-end.ensures (omega arith) c.if-span-end.false c.requires.span.from c.requires.span.to

pub sweep-pages-requires-clause-may : goal.sweep-pages-requires-clause-may
sweep-pages-requires-clause-may g c =
    let f = g.F.Format.layout in
    let here = (goal.at.sweep-pages-requires-clause-may g c).After-root-level in
    let r = c.range-inside.ensures in
    let first = r.first in let count = r.count in let within = r.within in let to = c.requires.span.to in
    let may = whole g here in
    let rooted = c.root-level.ensures.rooted in
    let uncut = part_uncut g.met.F.Format.lawful_layout rooted c.args.span.first (c.args.span.first + c.args.span.count) c.min-end.result c.spine_end.result
    c.spine_end.ensures c.min-end.ensures (omega arith) may.owns (c.requires.uncut (let e = c.min-end.ensures in let some = c.if-span-end.false in omega arith)) in
    let part : MaySweep f (g.H.Holder.view c.args.holder.now) c.args.span.first c.min-end.result c.levels-levels.result = record {
      owns = may.owns;
      apart = may.apart;
      uncut = uncut;
      tables = may.tables;
      once = may.once;
      levels_are = may.levels_are;
      none = may.none;
    } in
    let now = may_loads part (root_loads rooted) in
    let same = rooted.book.top in
    let reaches = rooted.reaches in
    record { may = now; clear = clear_root f (g.H.Holder.view c.root-level.new.self) c.args.span.first c.min-end.result c.root-level.result now.owns (omega arith) }

pub sweep-pages-requires-clause-free : goal.sweep-pages-requires-clause-free
sweep-pages-requires-clause-free g c h =
    let end = c.min-end.ensures in
    free_table g.F.Format.layout c.args.span.first c.min-end.result (root_loads c.root-level.ensures.rooted)
    (λ page low high. c.requires.free h page low (omega arith))

pub returns-then-span-end-clause-sweeps : goal.returns-then-span-end-clause-sweeps
returns-then-span-end-clause-sweeps g c =
    let f = g.F.Format.layout in
    let here = (goal.at.returns-then-span-end-clause-sweeps g c).After-root-level in
    let r = c.range-inside.ensures in
    let first = r.first in let count = r.count in let within = r.within in let to = c.requires.span.to in
    let last : ℕ = c.args.span.first + c.args.span.count in
    let rooted = c.root-level.ensures.rooted in
    let k = root_loads rooted in
    let may = whole g here in
    let none = none_lie g.met.F.Format.lawful_layout rooted c.args.span.first last c.min-end.result c.spine_end.result
    c.spine_end.ensures c.min-end.ensures (omega arith) may.tables (top g here) c.if-span-end.true in
    let stay = none_begin g.met.F.Format.lawful_layout rooted c.args.span.first last c.min-end.result c.spine_end.result
    c.spine_end.ensures c.min-end.ensures (omega arith) may.owns c.if-span-end.true in
    back_sweeps (table_lies_in f c.args.span.first last) (begins_in f c.args.span.first last) k c.root-level.ensures.stays.still_alone
    (loads_sweep (table_lies_in f c.args.span.first last) (begins_in f c.args.span.first last) loads_here refl
    (λ q m. none q (subst (λ (ps : List Position). IsAmong ps q) k.book.tables m)) (λ x m. stay x (subst (λ (xs : List Piece). IsOneOf xs x) k.book.pieces m)))
    c.leave.ensures.left (ap all_but_last rooted.path.1 ∙ sym c.requires.rest.1.path)

pub returns-clause-sweeps : goal.returns-clause-sweeps
returns-clause-sweeps g c =
    let f = g.F.Format.layout in
    let here = (goal.at.returns-clause-sweeps g c).After-root-level in
    let r = c.range-inside.ensures in
    let first = r.first in let count = r.count in let within = r.within in let to = c.requires.span.to in
    let last : ℕ = c.args.span.first + c.args.span.count in
    let rooted = c.root-level.ensures.rooted in
    let may = whole g here in
    sweeps_as (lies_below f c.args.span.first c.min-end.result c.root-level.result) (table_lies_in f c.args.span.first last)
    (begins_in f c.args.span.first c.min-end.result) (begins_in f c.args.span.first last)
    (less_tables g.met.F.Format.lawful_layout rooted c.args.span.first last c.min-end.result c.spine_end.result
    c.spine_end.ensures c.min-end.ensures (omega arith) may.tables (top g here))
    (same_tables g.met.F.Format.lawful_layout rooted c.args.span.first last c.min-end.result c.spine_end.result
    c.spine_end.ensures c.min-end.ensures (omega arith) may.tables (top g here))
    (same_pieces g.met.F.Format.lawful_layout rooted c.args.span.first last c.min-end.result c.spine_end.result
    c.spine_end.ensures c.min-end.ensures (omega arith) may.owns)
    (back_sweeps (lies_below f c.args.span.first c.min-end.result c.root-level.result) (begins_in f c.args.span.first c.min-end.result) (root_loads rooted)
    c.root-level.ensures.stays.still_alone c.sweep-pages.ensures.sweeps c.leave-2.ensures.left (ap all_but_last rooted.path.1 ∙ sym c.requires.rest.1.path))

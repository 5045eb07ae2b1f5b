use Rattle.std.proofs.Common.{◌≡◌, ℕ, ◌+◌, ◌-◌, ◌*◌, ◌/◌, ◌≤◌, length, min, sym, ◌∙◌, ap, arith}
use Rattle.pt_model.specs.Layout.{pages_of_table}
use Rattle.pt_model.specs.Tables.{end_of_table, position_over}
use Rattle.pt_map.proofs.NeededTables.{count_below, one_a_level}
use Rattle.pt_map.proofs.survey.needed_below.Given.{Over}
use Rattle.pt_map.proofs.survey.needed_below.Goals.{After-tables_needed}
use Rattle.pt_tile.specs.Extents.{tables_below}
use Rattle.pt_map.proofs.survey.needed_below.Goals as goal

counted : (g : Over) (c : After-tables_needed g) → (c.from-over.result ≤ c.tables_needed.result)
    × (c.tables_needed.result - c.from-over.result ≡ min c.args.cap (length (tables_below g.F.Format.layout c.args.extent c.args.level)))
counted g c =
    let f = g.F.Format.layout in
    let is = g.met.F.Format.has_constants.levels_is in
    count_below g.met.F.Format.lawful_layout c.requires.extent c.args.level c.requires.level c.requires.one
    c.LEVELS-2.result c.from-over.result c.args.cap c.tables_needed.result (c.LEVELS-2.ensures ∙ sym is)
    (c.from-over.ensures ∙ ap (λ n. n - 1 - c.args.level) (c.LEVELS.ensures ∙ sym is)) (c.tables_needed.ensures c.args.extent.prot)

pub overflow_sub-result : goal.overflow_sub-result
overflow_sub-result g c = (counted g c).0

pub returns : goal.returns
returns g c = (counted g c).1

-- the extent lies under one table of level 0
pub returns-then-is_under_one : goal.returns-then-is_under_one
returns-then-is_under_one g c =
    let f = g.F.Format.layout in
    let x = c.args.extent in
    let entry = c.is_under_one.ensures c.if-is_under_one.true in
    let one = entry.one in
    let wide : (x.first / pages_of_table f 0 + 1) * pages_of_table f 0 ≡ x.first / pages_of_table f 0 * pages_of_table f 0 + pages_of_table f 0 = omega arith in
    let under : x.end ≤ end_of_table f (position_over f x.first 0) = omega arith in
    let small = entry.lower in
    let few : length (tables_below f x c.args.level) ≡ c.args.level =
    one_a_level g.met.F.Format.lawful_layout c.requires.extent under (omega arith) c.args.level c.requires.level c.requires.one in
    c.min.ensures ∙ ap (λ (n : ℕ). min c.args.cap n) (c.from.ensures ∙ sym few)

use Rattle.std.proofs.Common.{◌+◌, List, [], ◌∷◌, ◌++◌, ap, ◌∙◌, arith}
use Rattle.pt_model.proofs.Quotients.{wider_entry}
use Rattle.pt_view.specs.declared.view.Node.{Node}
use Rattle.pt_view.proofs.Loads.{loads_on, root_loads}
use Rattle.pt_walk.proofs.Books.{owns_all}
use Rattle.pt_walk.proofs.Descent.{owns_on}
use Rattle.pt_walk.proofs.Ranges.{clear_root}
use Rattle.pt_sweep.proofs.BookTables.{root_range}
use Rattle.pt_sweep.proofs.OneEntry.{entry_after}
use Rattle.pt_sweep.proofs.entry.unmap_entry.Goals as goal

pub descend-stop-requires-clause-range : goal.descend-stop-requires-clause-range
descend-stop-requires-clause-range g c =
    let first = c.args.range.first in
    let last = c.args.range.first + c.args.range.count in
    let within = c.if-end-spine_end.false in
    root_range g.met.F.Format.lawful_layout c.root-root.ensures.rooted first last last c.spine_end.result c.spine_end.ensures (omega arith) c.requires.in_space
    (let some = c.requires.some in omega arith) c.requires.span.from c.requires.span.to

pub clear_from-pages-requires-clause-one : goal.clear_from-pages-requires-clause-one
clear_from-pages-requires-clause-one g c =
    let one = c.requires.one in
    let wide = wider_entry g.F.Format.layout c.args.range.first c.args.lowest c.descend-stop.result.level c.descend-stop.ensures.lowest in omega arith

pub clear_from-pages-requires-clause-clear : goal.clear_from-pages-requires-clause-clear
clear_from-pages-requires-clause-clear g c =
    let f = g.F.Format.layout in
    let rooted = c.root-root.ensures.rooted in
    let blocks = c.requires.rest.0 in
    let owns = owns_on f rooted.range rooted.book
    (owns_all f g.met.F.Format.lawful_layout (g.H.Holder.view c.args.holder.now) blocks c.requires.levels c.requires.rest.1 (c.requires.lawful blocks c.requires.rest.1)) in
    c.descend-stop.ensures.clear owns
    (clear_root f (g.H.Holder.view c.root-root.new.self) c.args.range.first (c.args.range.first + c.args.range.count) c.root-root.result owns
    (let same = rooted.book.top in let reaches = rooted.reaches in omega arith))

pub returns-clause-unmaps : goal.returns-clause-unmaps
returns-clause-unmaps g c =
    let rooted = c.root-root.ensures.rooted in
    let e = c.descend-stop.ensures in
    let one = c.requires.one in
    let wide = wider_entry g.F.Format.layout c.args.range.first c.args.lowest c.descend-stop.result.level e.lowest in
    entry_after g.met.F.Format.lawful_layout c.args.range.first c.args.range.count c.descend-stop.result.level c.requires.rest.1.path (loads_on (root_loads rooted) e.walked)
    (λ a. e.stays.still_alone (c.root-root.ensures.stays.still_alone a)) (omega arith)
    (λ same. c.climb.ensures.left [] (_ ∷ e.down.nodes) (same ∙ e.down.path ∙ ap (λ (xs : List Node). xs ++ e.down.nodes) rooted.path.1)
    (let many = e.down.so_many in omega arith))
    c.clear_from-pages.result c.clear_from-pages.ensures.clears

pub descend-stop-requires-clause-whole : goal.descend-stop-requires-clause-whole
descend-stop-requires-clause-whole g c = λ t.
    let one = c.requires.one in
    let wide = wider_entry g.F.Format.layout c.args.range.first c.args.lowest (c.args.lowest + 1) (omega arith) in omega arith

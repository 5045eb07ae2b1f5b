use Rattle.std.proofs.Common.{refl, sym, ◌∙◌}
use Rattle.std.proofs.lemmas.Bool.{false≢true}
use Rattle.pt_view.proofs.Loads.{IsLoad, back_loads, back_path, leaf_loads, load_leaf, loads_here}
use Rattle.pt_walk.proofs.Ranges.{range_enters, range_load}
use Rattle.pt_sweep.proofs.OneEntry.{empty_cuts, entry_may, leaf_cuts, leaf_inside, leaf_is}
use Rattle.pt_sweep.proofs.SweptPieces.{leaf_clears, may_clear}
use Rattle.pt_sweep.proofs.SweptTables.{nothing_here, some_path}
use Rattle.pt_sweep.proofs.entry.clear_entry.Given.{Over}
use Rattle.pt_sweep.proofs.entry.clear_entry.Goals as goal
use Rattle.pt_sweep.proofs.entry.clear_entry.Goals.{After-enter}

load : (g : Over) (c : After-enter g) → IsLoad g.F.Format.layout g.H.Holder.tells (g.H.Holder.alone c.args.holder.now) (g.H.Holder.view c.args.holder.now) c.args.first c.args.level c.enter.result (g.H.Holder.view c.enter.new.self)
load g c = range_load c.requires.range c.entry_number-number.ensures.number c.enter.ensures.went

pub enter-requires : goal.enter-requires
enter-requires g c = range_enters c.requires.range c.entry_number-number.result c.entry_number-number.ensures.number

pub is_cut-requires-clause-some : goal.is_cut-requires-clause-some
is_cut-requires-clause-some g c =
    let good = g.met.F.Format.lawful_layout in
    let r = c.requires in
    let l = load g (goal.at.is_cut-requires-clause-some g c).After-enter in
    (_, leaf_is good r.range r.one r.book r.clear l c.in-Leaf.is, leaf_inside good r.range r.one r.book r.clear l c.in-Leaf.is)

pub returns-then-is_cut-clause-clears : goal.returns-then-is_cut-clause-clears
returns-then-is_cut-clause-clears g c =
    let l = load g (goal.at.returns-then-is_cut-clause-clears g c).After-enter in (leaf_loads l c.in-Leaf.is, (load_leaf l c.in-Leaf.is).path)

pub clear-requires : goal.clear-requires
clear-requires g c =
    let good = g.met.F.Format.lawful_layout in
    let r = c.requires in
    let l = load g (goal.at.clear-requires g c).After-enter in
    let cut = c.is_cut.ensures _ (leaf_is good r.range r.one r.book r.clear l c.in-Leaf.is) in
    let none = leaf_cuts good r.range r.one r.book r.clear l c.in-Leaf.is
    (λ out. false≢true (sym c.if-is_cut.false ∙ cut.1 out)) in
    may_clear good r.range r.one (entry_may good r.range r.one r.book r.clear l none) l c.in-Leaf.is c.entry_number-number.result c.entry_number-number.ensures.number

pub returns-else-is_cut-clause-clears : goal.returns-else-is_cut-clause-clears
returns-else-is_cut-clause-clears g c =
    let good = g.met.F.Format.lawful_layout in
    let r = c.requires in
    let l = load g (goal.at.returns-else-is_cut-clause-clears g c).After-enter in
    let cut = c.is_cut.ensures _ (leaf_is good r.range r.one r.book r.clear l c.in-Leaf.is) in
    let none = leaf_cuts good r.range r.one r.book r.clear l c.in-Leaf.is
    (λ out. false≢true (sym c.if-is_cut.false ∙ cut.1 out)) in
    (none, leaf_clears good r.range r.one (entry_may good r.range r.one r.book r.clear l none) l c.in-Leaf.is c.entry_number-number.ensures.number c.clear.ensures.cleared)

pub returns-in-Empty-clause-clears : goal.returns-in-Empty-clause-clears
returns-in-Empty-clause-clears g c =
    let good = g.met.F.Format.lawful_layout in
    let r = c.requires in
    let l = load g (goal.at.returns-in-Empty-clause-clears g c).After-enter in
    let none = empty_cuts good r.range r.one r.book r.clear l c.in-Empty.is in
    (none, nothing_here good r.range r.one (entry_may good r.range r.one r.book r.clear l none) l c.in-Empty.is)

pub leave-requires : goal.leave-requires
leave-requires g c = some_path (g.H.Holder.view c.enter.new.self) (load g (goal.at.leave-requires g c).After-enter) c.in-Entered.is refl

pub returns-in-Entered-clause-clears : goal.returns-in-Entered-clause-clears
returns-in-Entered-clause-clears g c =
    let l = load g (goal.at.returns-in-Entered-clause-clears g c).After-enter in
    (back_loads l c.in-Entered.is loads_here refl c.leave.ensures.left, back_path l c.in-Entered.is {u = g.H.Holder.view c.enter.new.self} loads_here refl c.leave.ensures.left)

use Rattle.std.proofs.Common.{◌≡◌, ℕ, ◌∷◌, subst, ap, ap₂, sym, ◌∙◌, arith}
use Rattle.std.specs.Prelude.{filter}
use Rattle.pt_model.specs.Layout.{end_of}
use Rattle.pt_view.proofs.Loads.{leaf_loads, loads_on, none_loads, table_high, table_loads}
use Rattle.pt_walk.specs.RangeWalks.{IsOnWay, is_left}
use Rattle.pt_walk.proofs.Ranges.{range_enters, range_load}
use Rattle.pt_walk.proofs.WalkSteps.{IsStep, block_few, block_high, is_block, left_empty, left_leaf, next_range, the_block, way_empty, way_entered, way_leaf}
use Rattle.pt_walk.proofs.way.step.Given.{Over}
use Rattle.pt_walk.proofs.way.step.Goals as goal
use Rattle.pt_walk.proofs.way.step.Goals.{After-block_of-block, After-end_of-way, After-enter}

-- the load of the entry over the next page
load : (g : Over) (c : After-enter g) → IsStep g.F.Format.layout g.H.Holder.tells (g.H.Holder.alone c.args.holder.now) (g.H.Holder.view c.args.holder.now) c.args.way.now c.min-next.result c.enter.result (g.H.Holder.view c.enter.new.self)
load g c =
    let r = next_range g.met.F.Format.lawful_layout c.requires.way c.requires.more c.entry_end.result c.min-next.result c.entry_end.ensures c.min-next.ensures in
    record { walking = c.requires.way; more = c.requires.more; range = r.0; to = r.1; one = r.2; load = range_load r.0 c.entry_number.ensures.number c.enter.ensures.went }

pub enter-requires : goal.enter-requires
enter-requires g c =
    range_enters (next_range g.met.F.Format.lawful_layout c.requires.way c.requires.more c.entry_end.result c.min-next.result c.entry_end.ensures c.min-next.ensures).0
    c.entry_number.result c.entry_number.ensures.number

pub rise-requires : goal.rise-requires
rise-requires g c =
    let o : IsOnWay g.F.Format.layout (g.H.Holder.view c.enter.new.self) (record c.args.way.now { at = c.min-next.result }) =
    way_empty g.met.F.Format.lawful_layout (load g (goal.at.rise-requires g c).After-enter) c.in-Empty.is in
    record { way = o }

pub block_of-block-requires-clause-some : goal.block_of-block-requires-clause-some
block_of-block-requires-clause-some g c =
    let s = load g (goal.at.block_of-block-requires-clause-some g c).After-enter in
    (the_block g.met.F.Format.lawful_layout s c.in-Leaf.is, is_block g.met.F.Format.lawful_layout s c.in-Leaf.is)

-- the block that was read is the one that was found
block_is : (g : Over) (c : After-block_of-block g)
    (s : IsStep g.F.Format.layout g.H.Holder.tells (g.H.Holder.alone c.args.holder.now) (g.H.Holder.view c.args.holder.now) c.args.way.now c.min-next.result c.enter.result (g.H.Holder.view c.enter.new.self)) →
    c.block_of-block.result ≡ the_block g.met.F.Format.lawful_layout s c.in-Leaf.is
block_is g c s = c.block_of-block.ensures _ (is_block g.met.F.Format.lawful_layout s c.in-Leaf.is)

pub end_of-way-requires : goal.end_of-way-requires
end_of-way-requires g c =
    let here = goal.at.end_of-way-requires g c in
    let s = load g here.After-enter in
    let e = ap end_of (block_is g here.After-block_of-block s) in
    let few = block_few g.met.F.Format.lawful_layout s c.in-Leaf.is in
    omega arith

pub rise-requires-in-Leaf : goal.rise-requires-in-Leaf
rise-requires-in-Leaf g c =
    let here = goal.at.rise-requires-in-Leaf g c in
    let s = load g here.After-enter in
    let o : IsOnWay g.F.Format.layout (g.H.Holder.view c.enter.new.self) (record c.args.way.now { at = end_of c.block_of-block.result }) =
    way_leaf g.met.F.Format.lawful_layout s c.in-Leaf.is c.block_of-block.result (block_is g here.After-block_of-block s) in
    record { way = subst (λ (k : ℕ). IsOnWay g.F.Format.layout (g.H.Holder.view c.enter.new.self) (record c.args.way.now { at = k })) (sym c.end_of-way.ensures) o }

pub overflow_sub-way : goal.overflow_sub-way
overflow_sub-way g c = table_high (load g (goal.at.overflow_sub-way g c).After-enter).load c.in-Entered.is

pub returns-in-Empty-clause-walked : goal.returns-in-Empty-clause-walked
returns-in-Empty-clause-walked g c = loads_on (none_loads (load g (goal.at.returns-in-Empty-clause-walked g c).After-enter).load c.in-Empty.is) c.rise.ensures.walked

pub returns-in-Empty-clause-less : goal.returns-in-Empty-clause-less
returns-in-Empty-clause-less g c =
    let ahead = (load g (goal.at.returns-in-Empty-clause-less g c).After-enter).range.some in
    let more = c.requires.more in
    let at = c.rise.ensures.at in
    let end = c.rise.ensures.end in
    let few = c.rise.ensures.way.way.few in
    let l = g.met.F.Format.lawful_layout in
    omega (arith, l.levels_high)

pub returns-in-Empty-clause-comes : goal.returns-in-Empty-clause-comes
returns-in-Empty-clause-comes g c = λ blocks rest.
    left_empty g.met.F.Format.lawful_layout (load g (goal.at.returns-in-Empty-clause-comes g c).After-enter) c.in-Empty.is blocks rest
    ∙ ap₂ (λ a e. filter (is_left a e) blocks) (sym c.rise.ensures.at) (sym c.rise.ensures.end)

pub returns-in-Leaf-clause-walked : goal.returns-in-Leaf-clause-walked
returns-in-Leaf-clause-walked g c = loads_on (leaf_loads (load g (goal.at.returns-in-Leaf-clause-walked g c).After-enter).load c.in-Leaf.is) c.rise-in-Leaf.ensures.walked

pub returns-in-Leaf-clause-less : goal.returns-in-Leaf-clause-less
returns-in-Leaf-clause-less g c =
    let here = goal.at.returns-in-Leaf-clause-less g c in
    let s = load g here.After-enter in
    let high = block_high g.met.F.Format.lawful_layout s c.in-Leaf.is in
    let same = ap end_of (block_is g here.After-block_of-block s) in
    let stop = c.end_of-way.ensures in
    let more = c.requires.more in
    let at = c.rise-in-Leaf.ensures.at in
    let end = c.rise-in-Leaf.ensures.end in
    let few = c.rise-in-Leaf.ensures.way.way.few in
    let l = g.met.F.Format.lawful_layout in
    omega (arith, l.levels_high)

pub returns-in-Leaf-clause-comes : goal.returns-in-Leaf-clause-comes
returns-in-Leaf-clause-comes g c = λ blocks rest.
    let here = goal.at.returns-in-Leaf-clause-comes g c in
    let s = load g here.After-enter in
    left_leaf g.met.F.Format.lawful_layout s c.in-Leaf.is c.block_of-block.result (block_is g here.After-block_of-block s) blocks rest
    ∙ ap₂ (λ a e. c.block_of-block.result ∷ filter (is_left a e) blocks) (sym (c.rise-in-Leaf.ensures.at ∙ c.end_of-way.ensures)) (sym c.rise-in-Leaf.ensures.end)

pub returns-in-Entered-clause-walked : goal.returns-in-Entered-clause-walked
returns-in-Entered-clause-walked g c = table_loads (load g (goal.at.returns-in-Entered-clause-walked g c).After-enter).load c.in-Entered.is

pub returns-in-Entered-clause-way : goal.returns-in-Entered-clause-way
returns-in-Entered-clause-way g c =
    way_entered g.met.F.Format.lawful_layout (load g (goal.at.returns-in-Entered-clause-way g c).After-enter) c.in-Entered.is c.push.new.self c.push.ensures.items

pub returns-in-Entered-clause-less : goal.returns-in-Entered-clause-less
returns-in-Entered-clause-less g c =
    let high = table_high (load g (goal.at.returns-in-Entered-clause-less g c).After-enter).load c.in-Entered.is in
    omega arith

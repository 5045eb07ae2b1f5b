use Rattle.std.proofs.Common.{◌+◌, ◌*◌, ◌^◌, ◌≤◌, inl, inr, refl, arith}
use Rattle.std.specs.Prelude.{◌⊎◌}
use Rattle.std.proofs.lemmas.Bool.{cases_lt}
use Rattle.std.proofs.lemmas.Nat.{mul-le, pow_pos}
use Rattle.std.proofs.Math.Pow.{pow_mono}
use Rattle.pt_model.specs.Layout.{pages_of_table}
use Rattle.pt_view.specs.declared.view.View.{View}
use Rattle.pt_walk.specs.RangeWalks.{HasBook}
use Rattle.pt_walk.proofs.LeftBlocks.{begin_left, left_none}
use Rattle.pt_view.proofs.Loads.{root_loads}
use Rattle.pt_walk.proofs.WalkSteps.{begun, book_here, rest_here, rest_on}
use Rattle.pt_walk.proofs.walker.RangeWalk.begin.Goals as goal

pub returns-clause-walking : goal.returns-clause-walking
returns-clause-walking g c =
    let f = g.F.Format.layout in
    let v : View = g.H.Holder.view c.args.holder.now in
    let r = c.range-inside.ensures in
    let book : HasBook f v = book_here f v r.levels c.requires.rest r.lawful in
    let end = c.min-end.ensures in
    let spine = c.spine_end.ensures in
    let to = c.requires.span.to in
    let first = r.first in let count = r.count in let within = r.within in
    let positive = pow_pos (f.index * (c.root-level.result + 1)) in
    begun f g.met.F.Format.lawful_layout g.H.Holder.tells (g.H.Holder.alone c.args.holder.now) v (g.H.Holder.view c.root-level.new.self) _ c.root-level.ensures.rooted book c.new.ensures refl
    (omega arith) c.requires.span.from (omega arith) (omega arith)

pub returns-clause-left : goal.returns-clause-left
returns-clause-left g c = λ blocks rest some.
    let f = g.F.Format.layout in
    let v : View = g.H.Holder.view c.args.holder.now in
    let r = c.range-inside.ensures in
    let spine = c.spine_end.ensures in
    let to = c.requires.span.to in
    let first = r.first in let count = r.count in let within = r.within in
    let top = c.root-level.ensures.rooted.reaches in
    let bits : f.index * (v.top + 1) ≤ f.index * (c.root-level.result + 1) = mul-le f.index (v.top + 1) f.index (c.root-level.result + 1) (omega arith) (omega arith) in
    let wide : pages_of_table f v.top ≤ pages_of_table f c.root-level.result = pow_mono bits in
    let reach : (pages_of_table f v.top ≤ c.spine_end.result) ⊎ (2 ^ 52 ≤ c.spine_end.result) = elim (cases_lt (pages_of_table f c.root-level.result) (2 ^ 63)) [
      | inl less ↦ inl (omega arith)
      | inr over ↦ inr (omega arith)
    ] in
    begin_left f g.met.F.Format.lawful_layout v blocks (rest_here f v blocks rest) (r.lawful blocks rest) c.args.span.first (c.args.span.first + c.args.span.count) c.min-end.result c.spine_end.result
    (omega arith) (omega arith) reach c.min-end.ensures

pub returns-clause-rest : goal.returns-clause-rest
returns-clause-rest g c = λ blocks rest.
    let f = g.F.Format.layout in
    let v : View = g.H.Holder.view c.args.holder.now in
    let w : View = g.H.Holder.view c.root-level.new.self in
    rest_on f g.H.Holder.tells v w blocks (root_loads c.root-level.ensures.rooted) (rest_here f v blocks rest)

pub returns-clause-nothing : goal.returns-clause-nothing
returns-clause-nothing g c = λ blocks none. left_none c.args.span.first c.min-end.result blocks (let e = c.min-end.ensures in omega arith)

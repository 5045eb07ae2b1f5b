use Rattle.std.proofs.Common.{◌≡◌, ◌+◌, [], ◌∷◌, ◌++◌, refl, ap, arith, length-append}
use Rattle.std.specs.Prelude.{length}
use Rattle.pt_view.specs.declared.view.View.{View}
use Rattle.pt_walk.specs.declared.way.Way.{Way}
use Rattle.pt_walk.proofs.WalkTables.{tables_length}
use Rattle.pt_walk.proofs.walker.RangeWalk.end.Given.{Over}
use Rattle.pt_walk.proofs.walker.RangeWalk.end.Goals as goal
use Rattle.pt_walk.proofs.walker.RangeWalk.end.Goals.{After-len}

-- the path has the tables above, and the one that the walk stands in
many : (g : Over) (c : After-len g) → length (g.H.Holder.view c.args.holder.now).path ≡ c.len.result + 1
many g c =
    let v : View = g.H.Holder.view c.args.holder.now in
    let way : Way = c.args.self in
    let all : length v.path ≡ length (way.above.items ++ way.to ∷ []) = tables_length g.F.Format.layout v way.at way.end way.level (way.above.items ++ way.to ∷ []) v.path c.requires.walking.way.tables in
    let more = length-append way.above.items (way.to ∷ []) in
    let same : length c.self.inside.way.above.items ≡ length way.above.items = ap (λ (w : Way). length w.above.items) c.self.view_is in
    let len = c.len.ensures.value in
    omega arith

pub climb-requires : goal.climb-requires
climb-requires g c = let e = many g (goal.at.climb-requires g c).After-len in omega arith

pub returns-clause-left : goal.returns-clause-left
returns-clause-left g c =
    c.climb.ensures.left [] (g.H.Holder.view c.args.holder.now).path refl (many g (goal.at.returns-clause-left g c).After-len)

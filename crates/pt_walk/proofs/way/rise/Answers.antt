use Rattle.std.proofs.Common.{◌≡◌, ◌++◌, [], ◌∷◌, ap, ◌∙◌}
use Rattle.std.specs.Option.{option_to_list}
use Rattle.pt_view.specs.declared.view.View.{View}
use Rattle.pt_view.proofs.Loads.{loads_left, loads_on}
use Rattle.pt_walk.proofs.WalkSteps.{way_up}
use Rattle.pt_view.proofs.Stays.{stays_on}
use Rattle.pt_walk.proofs.way.rise.Goals as goal

pub loop-way-preserved : goal.loop-way-preserved
loop-way-preserved g c =
    let u : View = g.H.Holder.view c.args.holder.now in
    let v : View = g.H.Holder.view c.loop-way.holder in
    let w : View = g.H.Holder.view c.leave.new.self in
    let i = c.loop-way.invariant in
    let e = c.leave.ensures in
    let items : c.loop-way.way.above.items ≡ c.pop.new.self.items ++ c.in-Some.to ∷ [] = c.pop.ensures.items ∙ ap (λ o. c.pop.new.self.items ++ option_to_list o) c.in-Some.is in
    record {
      stays = stays_on i.stays e.stays;
      walked = loads_on i.walked (loads_left e.left);
      way = way_up g.F.Format.layout g.H.Holder.tells v w c.loop-way.way c.pop.new.self c.in-Some.to e.left items i.way;
      at = i.at;
      end = i.end;
    }

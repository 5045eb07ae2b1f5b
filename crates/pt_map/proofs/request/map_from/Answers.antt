use Rattle.std.proofs.Common.{refl, ap, sym, subst, arith}
use Rattle.std.specs.Prelude.{length}
use Rattle.pt_view.specs.Views.{linked_count}
use Rattle.pt_view.specs.declared.view.View.{View}
use Rattle.pt_map.specs.Requests.{RefusedBelow}
use Rattle.pt_view.proofs.Loads.{loads_here}
use Rattle.pt_map.proofs.MapAnswers.{ends_path}
use Rattle.pt_map.proofs.MapFromTable.{occupied_below}
use Rattle.pt_map.proofs.request.map_from.Goals as goal

pub climb-requires : goal.climb-requires
climb-requires g c =
    let path = ap length (ends_path g.F.Format.layout g.H.Holder.tells (g.H.Holder.alone c.args.holder.now) (linked_count (g.H.Holder.view c.args.holder.now) (g.H.Holder.aside c.args.holder.now))
    (g.H.Holder.view c.args.holder.now) (g.H.Holder.view c.map_at-mapped.new.holder) c.args.extent c.args.stop.level c.map_at-mapped.result c.map_at-mapped.ensures.ends) in
    let many = c.requires.tables in omega arith

pub returns-in-Table-clause-ends : goal.returns-in-Table-clause-ends
returns-in-Table-clause-ends g c = record { between = g.H.Holder.view c.map_at-mapped.new.holder; ends = c.map_at-mapped.ensures.ends; left = c.climb.ensures.left }

pub returns-in-Leaf-clause-ends : goal.returns-in-Leaf-clause-ends
returns-in-Leaf-clause-ends g c =
    let v : View = g.H.Holder.view c.args.holder.now in
    record {
      between = v;
      ends = subst (RefusedBelow g.F.Format.layout g.H.Holder.tells (g.H.Holder.alone c.args.holder.now) (linked_count v (g.H.Holder.aside c.args.holder.now)) v v c.args.extent c.args.stop.level) (sym c.leave_occupied.ensures.at)
          (occupied_below loads_here refl refl (c.requires.leaf c.in-Leaf.is));
      left = c.leave_occupied.ensures.left;
    }

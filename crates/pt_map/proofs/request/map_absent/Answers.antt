use Rattle.std.proofs.Common.{ap, arith}
use Rattle.std.specs.Prelude.{length}
use Rattle.pt_view.specs.Views.{linked_count}
use Rattle.pt_map.proofs.MapAnswers.{ends_path}
use Rattle.pt_map.proofs.request.map_absent.Goals as goal

pub climb-requires : goal.climb-requires
climb-requires g c =
    let path = ap length (ends_path g.F.Format.layout g.H.Holder.tells (g.H.Holder.alone c.args.holder.now) (linked_count (g.H.Holder.view c.args.holder.now) (g.H.Holder.aside c.args.holder.now))
    (g.H.Holder.view c.args.holder.now) (g.H.Holder.view c.map_lacking-mapped.new.holder) c.args.extent c.args.level c.map_lacking-mapped.result c.map_lacking-mapped.ensures.ends) in
    let many = c.requires.tables in omega arith

pub returns-clause-ends : goal.returns-clause-ends
returns-clause-ends g c = record { between = g.H.Holder.view c.map_lacking-mapped.new.holder; ends = c.map_lacking-mapped.ensures.ends; left = c.climb.ensures.left }

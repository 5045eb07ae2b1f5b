use Rattle.std.proofs.Common.{rules, arith}
use Rattle.pt_rule.proofs.Laws.{splits_keep}
use Rattle.pt_space.proofs.cut.cut_seat.Goals as goal

pub split_seat-requires : goal.split_seat-requires
split_seat-requires g c =
    let law = g.met.F.Format in (
      search rules,
      (let words = c.space.invariant.words_are in omega arith),
      λ s h here.
          splits_keep g.F.Format.layout law.lawful_layout c.space.inside.table.shared.key.frames c.space.inside.table.shared.key.levels s.words s.views c.args.seat.now.id c.args.seat.now.me.0 g.J.Cut.at g.J.Cut.kept h here
          c.requires.live c.requires.may,
    )

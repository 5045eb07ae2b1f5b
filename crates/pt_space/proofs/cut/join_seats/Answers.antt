use Rattle.std.proofs.Common.{rules, arith, sym, ◌∙◌, []}
use Rattle.atomic_table.proofs.Lists.{set_else}
use Rattle.pt_rule.specs.Cuts.{joined}
use Rattle.pt_rule.specs.Kinds.{retrace}
use Rattle.pt_rule.proofs.Laws.{joins_keep}
use Rattle.pt_space.proofs.cut.join_seats.Goals as goal

pub join_seat-requires : goal.join_seat-requires
join_seat-requires g c =
    let law = g.met.F.Format in (
      search rules,
      search rules,
      search rules,
      (let words = c.space.invariant.words_are in omega arith),
      λ s h here apart there.
          joins_keep g.F.Format.layout law.lawful_layout c.space.inside.table.shared.key.frames c.space.inside.table.shared.key.levels s.words s.views c.args.seat.now.id c.args.right.id c.args.seat.now.me.0 c.args.right.me.0 h here apart
          (sym (set_else s.views c.args.seat.now.id c.args.right.id (joined (retrace [] c.args.seat.now.me.0) (retrace [] c.args.right.me.0)) apart) ∙ there)
          c.requires.live.0 c.requires.live.1 c.requires.may,
    )

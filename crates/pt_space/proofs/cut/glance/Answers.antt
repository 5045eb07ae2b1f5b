use Rattle.std.proofs.Common.{rules, sym, subst, refl, ℕ, List, arith}
use Rattle.std.proofs.lemmas.List.{set-get_or}
use Rattle.atomic_table.specs.Table.{keeps}
use Rattle.atomic_table.proofs.Lists.{set_again}
use Rattle.pt_view.specs.declared.view.View.{View}
use Rattle.pt_rule.specs.Lawful.{Lawful}
use Rattle.pt_rule.specs.Holds.{Holds}
use Rattle.pt_rule.proofs.Laws.{views_hold}
use Rattle.pt_space.proofs.cut.glance.Goals as goal

pub load-requires : goal.load-requires
load-requires g c =
    let law = g.met.F.Format in
    let f = g.F.Format.layout in
    let v : View = c.args.seat.now.me.0 in
    let n : ℕ = c.space.inside.table.shared.key.frames in
    let l : ℕ = c.space.inside.table.shared.key.levels in (
      search rules,
      (let words = c.space.invariant.words_are in omega arith),
      λ s h deep here small. (
        v,
        keeps,
        tt,
        subst (λ (t : List ℕ × List View). Lawful f n l t.0 t.1) (λ i. (sym (set-get_or s.words 0 0) i, sym (set_again s.views c.args.seat.now.id v here) i)) h,
        (
          (let k = views_hold f law.lawful_layout n l s.words s.views c.args.seat.now.id v h here c.requires.live.0 in
              subst (λ (z : ℕ × ℕ). Holds f z.0 z.1 v) (λ i. (sym k.frames i, sym k.levels i)) k),
          refl,
        ),
      ),
    )

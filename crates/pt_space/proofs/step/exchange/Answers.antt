use Rattle.std.proofs.Common.{rules, slice_index, sym, subst, refl, ℕ, eqb, ◌<◌}
use prog.Atomic.{either}
use Rattle.atomic_table.specs.Table.{keeps}
use Rattle.pt_view.specs.declared.view.View.{View}
use Rattle.pt_rule.specs.Kinds.{after, retrace}
use Rattle.pt_space.specs.Standing.{MayStep, SpaceId, Stepped}
use Rattle.pt_space.proofs.Stepping.{steps}
use Rattle.pt_space.proofs.step.exchange.Goals as goal

pub compare_exchange-requires : goal.compare_exchange-requires
compare_exchange-requires g c =
    let law = g.met.F.Format in
    let f = g.F.Format.layout in
    let v : View = c.args.seat.now.me.0 in
    let kind = g.J.Step.kind in
    let path = g.J.Step.path in
    let n : ℕ = c.space.inside.table.shared.key.frames in
    let l : ℕ = c.space.inside.table.shared.key.levels in
    let may : MayStep f n l kind path v c.args.word (λ n. either (eqb n c.args.old) c.args.new n) = subst (λ (z : SpaceId). MayStep f z.frames z.levels kind path v c.args.word (λ n. either (eqb n c.args.old) c.args.new n)) (sym c.space.view_is) c.requires.may in (
      search rules,
      subst (λ (k : ℕ). c.args.word < k) (sym c.space.invariant.words_are) may.within,
      λ s h deep here small.
          let found : ℕ = slice_index s.words c.args.word in
          let w : View = after f kind found (retrace path v) in
          let k = steps law.lawful_layout law.words_differ law.steps_agree may s.words s.views c.args.seat.now.id h here in
          (w, keeps, tt, k.0, (subst (λ (z : ℕ × ℕ). Stepped f z.0 z.1 kind (retrace path v) found w) (λ i. (sym may.frames i, sym may.levels i)) k.1, refl)),
    )

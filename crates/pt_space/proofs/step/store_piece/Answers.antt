use Rattle.std.proofs.Common.{rules, slice_index, sym, subst, refl, ℕ, ◌<◌}
use Rattle.atomic_table.specs.Table.{keeps}
use Rattle.pt_view.specs.declared.view.View.{View}
use Rattle.pt_view.specs.declared.view.Piece.{Piece}
use Rattle.pt_rule.specs.Kinds.{after, retrace}
use Rattle.pt_space.specs.Standing.{MayStep, SpaceId, SteppedAbout}
use Rattle.pt_space.proofs.Stepping.{steps}
use Rattle.pt_space.proofs.step.store_piece.Goals as goal

pub store-requires : goal.store-requires
store-requires g c =
    let law = g.met.F.Format in
    let f = g.F.Format.layout in
    let v : View = c.args.seat.now.me.0 in
    let kind = g.J.PieceStep.kind in
    let path = g.J.PieceStep.path in
    let n : ℕ = c.space.inside.table.shared.key.frames in
    let l : ℕ = c.space.inside.table.shared.key.levels in
    let x : Piece = c.requires.may.0 in
    let may : MayStep f n l (kind x) path v c.args.word (λ _. c.args.new) = subst (λ (z : SpaceId). MayStep f z.frames z.levels (kind x) path v c.args.word (λ _. c.args.new)) (sym c.space.view_is) c.requires.may.1 in (
      search rules,
      subst (λ (k : ℕ). c.args.word < k) (sym c.space.invariant.words_are) may.within,
      λ s h deep here small.
          let found : ℕ = slice_index s.words c.args.word in
          let w : View = after f (kind x) found (retrace path v) in
          let k = steps law.lawful_layout law.words_differ law.steps_agree may s.words s.views c.args.seat.now.id h here in
          let told : SteppedAbout f n l kind (retrace path v) c.args.new w = record { piece = x; found = found; may = may.may; puts = may.puts_is found; stepped = k.1 } in
          (w, keeps, tt, k.0, (subst (λ (z : ℕ × ℕ). SteppedAbout f z.0 z.1 kind (retrace path v) c.args.new w) (λ i. (sym may.frames i, sym may.levels i)) told, refl)),
    )

pub returns-clause-stepped : goal.returns-clause-stepped
returns-clause-stepped g c =
    let may = c.requires.may.1 in
    subst (λ (z : ℕ × ℕ). SteppedAbout g.F.Format.layout z.0 z.1 g.J.PieceStep.kind (retrace g.J.PieceStep.path c.args.seat.now.me.0) c.args.new c.store.new.seat.me.0)
    (λ i. (may.frames i, may.levels i)) c.store.ensures.2.0

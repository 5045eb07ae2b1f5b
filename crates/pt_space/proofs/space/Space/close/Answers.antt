use Rattle.std.proofs.Common.{ℕ, List, [], ◌∷◌, set, sym, subst, ap, ◌∙◌, arith, refl, Result, Ok, Err, IfOk}
use Rattle.atomic_table.proofs.Lists.{set_here}
use Rattle.pt_view.specs.declared.view.View.{View}
use Rattle.pt_rule.specs.Lawful.{Lawful}
use Rattle.pt_rule.specs.Kinds.{retrace}
use Rattle.pt_rule.proofs.HolderFacts.{front_lawful, stands_inside}
use Rattle.pt_rule.proofs.Laws.{whole_is_alone}
use Rattle.pt_space.specs.Standing.{SpaceId, Standing}
use Rattle.pt_space.proofs.space.Space.close.Goals as goal

on_ok : {A E : Type 0} {P Q : A → Type 0} → (r : Result A E) → IfOk r P → ((v : A) → P v → Q v) → IfOk r Q
on_ok (Ok v) h f = f v h
on_ok (Err e) h f = tt

pub free-requires : goal.free-requires
free-requires g c = let z = c.close_with-closed.ensures.counts.1 in let none = c.self.invariant.no_slots in λ k l. absurd (omega arith)

pub returns : goal.returns
returns g c =
    let f = g.F.Format.layout in
    let last = c.close_with-closed.ensures.values.2 in
    let n : ℕ = c.self.inside.table.shared.key.frames in
    let l : ℕ = c.self.inside.table.shared.key.levels in
    let v : View = c.whole.inside.seat.me.0 in
    let id : ℕ = c.whole.inside.seat.id in
    let shows = c.whole.invariant.1 in
    let cut = front_lawful id v [] v.path last.1.0 last.1.1 shows.holds.live refl in
    let here = set_here last.0.views id (retrace [] v) (stands_inside last.0.views id v last.1.1) in
    let whole = ap (λ (x : Standing). x.view.count) c.whole.view_is ∙ c.requires.whole in
    let one = (whole_is_alone f n l last.0.words (set last.0.views id (retrace [] v)) id (retrace [] v) cut here whole).0 in
    let named = subst (λ (x : Standing). Lawful f n l last.0.words (x.view ∷ [])) c.whole.view_is one in
    on_ok c.copy_words-words.result c.copy_words-words.ensures
    (λ w e. subst (λ (z : SpaceId). Lawful f z.frames z.levels w.items (c.args.whole.view ∷ [])) c.self.view_is
    (subst (λ (ws : List ℕ). Lawful f n l ws (c.args.whole.view ∷ [])) (last.2 ∙ sym e) named))

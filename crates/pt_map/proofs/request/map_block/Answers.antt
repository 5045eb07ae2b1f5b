use Rattle.std.proofs.Common.{◌≡◌, ℕ, ◌*◌, ◌/◌, ◌<◌, ap, sym, subst, ◌∙◌, arith}
use Rattle.std.proofs.Math.Nat.{div-eq_of_eq-mul_right}
use Rattle.pt_format.specs.Laws.{IsLayout}
use Rattle.pt_model.specs.Layout.{Layout}
use Rattle.pt_view.specs.Views.{linked_count}
use Rattle.pt_map.specs.Requests.{EndsBelow, MayMapBelow}
use Rattle.pt_map.proofs.request.map_block.Goals as goal

-- the level of a block of one entry, by its size
level_is : (f : Layout) → IsLayout f → (log2 level n m : ℕ) → n ≡ f.index → m ≡ f.index → log2 ≡ n * level → log2 / m ≡ level
level_is f good log2 level n m a b one =
    let some : 0 < f.index = omega (arith, good.index_is, good.granule_low) in
    ap (λ (i : ℕ). log2 / i) b ∙ div-eq_of_eq-mul_right some (one ∙ ap (λ (i : ℕ). i * level) a)

pub map_entry-requires-clause-may : goal.map_entry-requires-clause-may
map_entry-requires-clause-may g c =
    let is = g.met.F.Format.has_constants.index_is in
    let e = level_is g.F.Format.layout g.met.F.Format.lawful_layout c.args.log2 c.args.level c.INDEX.result c.INDEX-then-log2-INDEX.result (c.INDEX.ensures ∙ sym is) (c.INDEX-then-log2-INDEX.ensures ∙ sym is) c.if-log2-INDEX.true in
    subst (MayMapBelow g.F.Format.layout (g.H.Holder.view c.args.holder.now) c.args.extent) (sym e) c.requires.may

pub returns-then-log2-INDEX-clause-ends : goal.returns-then-log2-INDEX-clause-ends
returns-then-log2-INDEX-clause-ends g c =
    let is = g.met.F.Format.has_constants.index_is in
    let e = level_is g.F.Format.layout g.met.F.Format.lawful_layout c.args.log2 c.args.level c.INDEX.result c.INDEX-then-log2-INDEX.result (c.INDEX.ensures ∙ sym is) (c.INDEX-then-log2-INDEX.ensures ∙ sym is) c.if-log2-INDEX.true in
    subst (λ (l : ℕ). EndsBelow g.F.Format.layout g.H.Holder.tells (g.H.Holder.alone c.args.holder.now) (linked_count (g.H.Holder.view c.args.holder.now) (g.H.Holder.aside c.args.holder.now))
    (g.H.Holder.view c.args.holder.now) (g.H.Holder.view c.map_entry.new.holder) c.args.extent l c.map_entry.result) e c.map_entry.ensures.ends

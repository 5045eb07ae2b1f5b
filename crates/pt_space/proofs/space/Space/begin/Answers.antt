use Rattle.std.proofs.Common.{rules, ◌≡◌, ℕ, ◌*◌, ◌-◌, ◌%◌, ◌<◌, ◌^◌, [], List, sym, ap, ◌∙◌, subst, arith}
use Rattle.std.specs.Prelude.{None}
use Rattle.std.proofs.lemmas.Nat.{one_shl}
use Rattle.pt_model.specs.Layout.{input_pages}
use Rattle.pt_view.specs.declared.view.View.{View}
use Rattle.pt_rule.specs.Kinds.{retrace}
use Rattle.pt_space.specs.Saved.{saved_view}
use Rattle.pt_space.specs.Standing.{Shows}
use Rattle.pt_space.proofs.Saved.{saved_shows, saved_retraced}
use Rattle.pt_space.proofs.space.Space.begin.Goals as goal

pub invariant_of-pass : goal.invariant_of-pass
invariant_of-pass g c =
    let law = g.met.F.Format in
    let f = g.F.Format.layout in
    let n : ℕ = c.args.about.frames in
    let l : ℕ = c.args.about.levels in
    let ws : List ℕ = c.args.about.words.items in
    let u : View = saved_view f n l c.args.about.hold ws in
    let me : c.in_ok-table.seat.me ≡ (u, []) = search rules in
    let constants = law.has_constants in
    let input : c.INPUT.result ≡ f.input = c.INPUT.ensures ∙ sym constants.input_is in
    let granule : c.GRANULE.result ≡ f.granule = c.GRANULE.ensures ∙ sym constants.granule_is in
    let bits : c.INPUT.result - c.GRANULE.result ≡ f.input - f.granule = omega arith in
    let few : c.INPUT.result - c.GRANULE.result < 64 = (let a = law.lawful_layout.pages_high in omega arith) in
    let count : (1 * 2 ^ (c.INPUT.result - c.GRANULE.result)) % 18446744073709551616 ≡ input_pages f = one_shl (c.INPUT.result - c.GRANULE.result) 64 few ∙ ap (λ b. 2 ^ b) bits in (
      ap (λ m. m.1) me,
      subst (λ (x : View). Shows f n l x (record { first = 0; count = (1 * 2 ^ (c.INPUT.result - c.GRANULE.result)) % 18446744073709551616; head = c.first_frame.result; held = c.args.about.hold; path = []; depth = 0; level = 0; prepared = None }))
          (sym (ap (λ m. m.0) me)) (saved_shows law.lawful_layout c.requires.lawful _ c.first_frame.result count c.first_frame.ensures),
    )

pub returns-clause-view : goal.returns-clause-view
returns-clause-view g c =
    let f = g.F.Format.layout in
    let u : View = saved_view f c.args.about.frames c.args.about.levels c.args.about.hold c.args.about.words.items in
    let me : c.in_ok-table.seat.me ≡ (u, []) = search rules in
    ap (λ m. retrace [] m.0) me ∙ saved_retraced f c.args.about.frames c.args.about.levels c.args.about.hold c.args.about.words.items

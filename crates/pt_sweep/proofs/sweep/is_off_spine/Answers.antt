use Rattle.std.proofs.Common.{◌≡◌, ◌+◌, ◌-◌, ◌*◌, ◌^◌, min, inl, inr, ap, ◌∙◌, arith}
use Rattle.std.proofs.lemmas.Bool.{lt-ltb, ltb-true}
use Rattle.std.proofs.lemmas.Nat.{one_shl}
use Rattle.pt_model.specs.Layout.{pages_of_entry}
use Rattle.pt_walk.proofs.Cuts.{pages_few, power_cut}
use Rattle.pt_sweep.proofs.sweep.is_off_spine.Goals as goal

pub returns-else-first-gt0 : goal.returns-else-first-gt0
returns-else-first-gt0 g c =
    let f = g.F.Format.layout in
    let few = pages_few f g.met.F.Format.lawful_layout in
    let size : c.args.end - c.args.first ≡ min (pages_of_entry f c.args.level) (2 ^ 63) =
    c.if-end-first.false ∙ one_shl c.entry_bits.result 64 (let e = c.entry_bits.ensures in omega arith) ∙ ap (λ b. 2 ^ b) c.entry_bits.ensures ∙ power_cut (f.index * c.args.level) in
    let some = c.requires.some in
    let within = c.requires.in_space in
    let whole : c.args.end ≡ c.args.first + pages_of_entry f c.args.level = omega arith in
    let none = c.if-first-gt0.false in
    (λ t. (whole, inr (ltb-true c.args.level c.args.levels t)), λ h. elim h.1 [ inl a ↦ absurd (omega arith) | inr b ↦ lt-ltb c.args.level c.args.levels b ])

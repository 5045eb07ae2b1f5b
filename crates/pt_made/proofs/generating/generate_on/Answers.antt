use Rattle.std.proofs.Common.{◌≡◌, ◌+◌, ◌*◌, ◌-◌, ◌%◌, ◌^◌, ◌≤◌, ℕ, List, ap, length, sym, ◌∙◌, arith}
use Rattle.std.proofs.lemmas.Nat.{one_shl}
use Rattle.std.proofs.Math.Pow.{pow_mono}
use Rattle.pt_model.specs.declared.command.Command.{Command}
use Rattle.pt_laws.specs.Need.{need}
use Rattle.pt_made.specs.Needing.{machine}
use Rattle.pt_made.specs.Made.{body_on, census_in, tail_behind}
use Rattle.pt_made.proofs.Pages.{few_commands}
use Rattle.pt_made.proofs.Lawful.{body_length}
use Rattle.pt_made.proofs.Bound.{made_need}
use Rattle.pt_made.proofs.Generated.{IsGenerated, generated}
use Rattle.pt_made.proofs.generating.generate_on.Given.{Over}
use Rattle.pt_made.proofs.generating.generate_on.Goals.{After-of-2}
use Rattle.pt_made.proofs.generating.generate_on.Goals as goal

pub need_on-hold-requires-clause-few : goal.need_on-hold-requires-clause-few
need_on-hold-requires-clause-few g c =
    omega (arith, ap length c.deref.ensures.value, ap length c.in_ok-commands.ensures, body_length g.F.Format.layout c.args.number, few_commands g.F.Format.layout)

pub overflow_cast-hold : goal.overflow_cast-hold
overflow_cast-hold g c =
    let good = g.met.F.Format.lawful_layout in
    let is = g.met.F.Format.has_constants.start_is in
    let low : 3 ≤ c.START-levels.result = omega (arith, c.START-levels.ensures, good.start_low) in
    let high : c.START-levels.result ≤ 6 = omega (arith, c.START-levels.ensures, good.start_high, good.levels_high) in
    let body : c.deref.result.now ≡ body_on g.F.Format.layout c.args.number = c.deref.ensures.value ∙ c.in_ok-commands.ensures in
    let less : 27 - g.F.Format.layout.granule ≤ 27 = omega arith in
    let few : 2 ^ (27 - g.F.Format.layout.granule) ≤ 2 ^ 27 = pow_mono less in
    omega (
      arith,
      c.need_on-hold.ensures,
      ap (λ (cs : List Command). need (machine g.F.Format.layout c.START-levels.result (1 * 2 ^ (27 - c.GRANULE.result) % 2 ^ 32)) cs) body,
      made_need (machine g.F.Format.layout c.START-levels.result (1 * 2 ^ (27 - c.GRANULE.result) % 2 ^ 32)) good low high c.args.number,
    )

pub overflow_cast-line : goal.overflow_cast-line
overflow_cast-line g c =
    omega (arith, c.len.ensures, c.deref.ensures.len, ap length c.deref.ensures.value, ap length c.in_ok-commands.ensures, body_length g.F.Format.layout c.args.number, few_commands g.F.Format.layout)

pub overflow_add-line : goal.overflow_add-line
overflow_add-line g c =
    omega (arith, c.len.ensures, c.deref.ensures.len, ap length c.deref.ensures.value, ap length c.in_ok-commands.ensures, body_length g.F.Format.layout c.args.number, few_commands g.F.Format.layout)

module _ (g : Over) (c : After-of-2 g) where
  limit : 1 * 2 ^ (27 - c.GRANULE.result) % 2 ^ 32 ≡ 2 ^ (27 - g.F.Format.layout.granule)
  limit =
      let bits : c.GRANULE.result ≡ g.F.Format.layout.granule = c.GRANULE.ensures ∙ sym g.met.F.Format.has_constants.granule_is in
      one_shl (27 - c.GRANULE.result) 32 (omega arith) ∙ ap (λ (n : ℕ). 2 ^ (27 - n)) bits

  body_made : c.of.result ≡ body_on g.F.Format.layout c.args.number
  body_made = c.of.ensures ∙ c.in_ok-commands.ensures

  held : c.need_on-hold.result ≡ need (machine g.F.Format.layout c.START-levels.result (1 * 2 ^ (27 - c.GRANULE.result) % 2 ^ 32)) c.of.result
  held =
      c.need_on-hold.ensures
      ∙ ap (λ (cs : List Command). need (machine g.F.Format.layout c.START-levels.result (1 * 2 ^ (27 - c.GRANULE.result) % 2 ^ 32)) cs) (c.deref.ensures.value ∙ sym c.of.ensures)

  tail_made : c.of-2.result ≡ tail_behind c.of.result
  tail_made =
      let line : c.len.result + 5 ≡ 5 + length c.of.result = omega (arith, c.len.ensures, c.deref.ensures.len, ap length c.deref.ensures.value, ap length c.of.ensures) in
      c.of-2.ensures ∙ c.in_ok-asks.ensures ∙ ap census_in line

  is_generated : IsGenerated c.args.number c.args.format c.START-levels.result (1 * 2 ^ (27 - c.GRANULE.result) % 2 ^ 32) c.need_on-hold.result c.of.result c.of-2.result
  is_generated =
      generated g.met.F.Format.lawful_layout c.args.number c.args.format c.requires.layout c.START-levels.result (1 * 2 ^ (27 - c.GRANULE.result) % 2 ^ 32) c.need_on-hold.result c.of.result c.of-2.result
      (c.START-levels.ensures ∙ sym g.met.F.Format.has_constants.start_is) limit held body_made tail_made c.is_the_grammar.ensures

pub invariant_of-result : goal.invariant_of-result
invariant_of-result g c = let made = is_generated g c in record { lawful = made.lawful; numbered = made.numbered; tail_numbered = made.tail_numbered }

pub returns : goal.returns
returns g c =
    let at = (goal.at.returns g c).After-of-2 in
    let made = is_generated g at in
    record {
      format = c.requires.name;
      levels = made.levels_are;
      frames = made.frames_are;
      hold = made.hold_is;
      body = made.body_is;
      tail = tail_made g at;
    }

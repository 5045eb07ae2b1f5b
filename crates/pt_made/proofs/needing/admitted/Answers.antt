use Rattle.std.proofs.Common.{◌≡◌, ℕ, ◌+◌, ◌*◌, ◌%◌, ◌^◌, ◌≤◌, ◌∙◌, sym, subst, arith}
use Rattle.std.specs.Prelude.{Some, option_map}
use Rattle.std.proofs.lemmas.Nat.{one_shl}
use Rattle.pt_model.specs.Pages.{range_at}
use Rattle.pt_format.specs.Ranges.{span_of}
use Rattle.pt_made.proofs.Admitting.{is_admitted}
use Rattle.pt_made.proofs.needing.admitted.Goals as goal

pub returns-clause-some : goal.returns-clause-some
returns-clause-some g c =
    let good = g.met.F.Format.lawful_layout in
    let bits = g.met.F.Format.has_constants.output_is in
    let high = good.output_high in
    let all : 1 * 2 ^ c.OUTPUT.result % 2 ^ 128 ≡ 2 ^ c.OUTPUT.result = one_shl c.OUTPUT.result 128 (omega (arith, c.OUTPUT.ensures)) in
    let same : c.OUTPUT.result ≡ g.F.Format.layout.output = c.OUTPUT.ensures ∙ sym bits in
    let within : c.args.pa + c.args.len ≤ 2 ^ g.F.Format.layout.output =
    subst (λ (n : ℕ). c.args.pa + c.args.len ≤ 2 ^ n) same (let under = c.if-from-OUTPUT.false in omega (arith, all, c.from.ensures, c.from-2.ensures)) in
    is_admitted good c.args.va c.args.pa c.args.len (sym c.if-not-is_whole.ensures) (sym c.if-not-is_whole-2.ensures) (sym c.if-not-is_whole-3.ensures)
    (let ne = c.if-len-eq0.false in omega arith) c.in_ok-span.span
    (let found : Some c.in_ok-span.span ≡ option_map span_of (range_at g.F.Format.layout c.args.va c.args.len) = cc (c.in_ok-span.was, c.range_of.ensures) in found)
    within

use Rattle.std.proofs.Common.{◌≡◌, ℕ, ◌+◌, ◌*◌, ◌/◌, ◌%◌, ◌^◌, ◌<◌, ◌≤◌, sym, ◌∙◌, subst, arith}
use Rattle.std.proofs.lemmas.Nat.{mod_below, pow_pos, shr_split}
use Rattle.std.proofs.Math.Pow.{pow_mono}
use Rattle.pt_manual.specs.AmdWalk.{mode}
use Rattle.pt_manual.proofs.AmdFacts.{walk_is}
use Rattle.pt_manual.proofs.amd.walk_amdv1.Goals as goal
use Rattle.pt_manual.proofs.amd.walk_amdv1.Goals.{else-mode-lt6-via-then-mode-lt6+else-address-mode-ne0, else-mode-lt6-via-else-mode-lt6}

pub returns : goal.returns
returns c =
    let bits : ℕ = 12 + 9 * mode c.args.words.now in
    let small : c.args.address < 2 ^ (12 + 9 * mode c.args.words.now) = elim c.else-mode-lt6.branch [
      | else-mode-lt6-via-then-mode-lt6+else-address-mode-ne0 w ↦
          let none : c.args.address / 2 ^ bits ≡ 0 = w.if-address-mode-ne0.false in
          let rest : c.args.address ≡ 0 * 2 ^ bits + c.args.address % 2 ^ bits =
          subst (λ n. c.args.address ≡ n * 2 ^ bits + c.args.address % 2 ^ bits) none (omega (arith, shr_split c.args.address bits)) in
          omega (arith, mod_below c.args.address (2 ^ bits) (pow_pos bits), rest)
      | else-mode-lt6-via-else-mode-lt6 w ↦
          let wide : 64 ≤ bits = let six = w.if-mode-lt6.false in omega arith in
          let most : 2 ^ 64 ≤ 2 ^ bits = pow_mono wide in
          omega (arith, c.ranges.address.fits)
    ] in
    c.walk_from.ensures
    ∙ sym (walk_is c.args.words.now c.args.address (rw c.frames_of.ensures at c.if-frame-frames_of.false) c.if-mode-lt3.false c.if-mode-gt6.false small)

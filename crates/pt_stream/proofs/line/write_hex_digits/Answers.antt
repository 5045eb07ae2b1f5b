use Rattle.std.proofs.Common.{◌≡◌, ◌≢◌, ℕ, zero, suc, ◌+◌, ◌-◌, ◌/◌, ◌%◌, ◌^◌, ◌<◌, ◌≤◌, List, ◌∷◌, ◌++◌, length, drop, set, false, ap, refl, sym, ◌∙◌, subst, inr, arith}
use Rattle.std.specs.Fmt.{digits_onto, digit_glyph}
use Rattle.std.proofs.Math.Nat.{pow-zero}
use Rattle.pt_stream.proofs.Spelling.{onto_last, onto_more, room_next, onto_nil, drop_written}
use Rattle.pt_stream.proofs.Reading.{onto_append}
use Rattle.pt_stream.proofs.line.write_hex_digits.Invariants.{Writing}
use Rattle.pt_stream.proofs.line.write_hex_digits.Goals as goal

-- no digit is written yet
begins : (bytes : List ℕ) (end value turn : ℕ) → value < 2 ^ 64 → turn ≡ 0 → Writing bytes bytes end value turn value
begins bytes end value turn small none =
    let behind = drop end bytes in
    let fuel : 64 - 0 ≡ 64 = omega arith in
    let all : end - 0 ≡ end = omega arith in
    subst (λ k. Writing bytes bytes end value k value) (sym none) (record {
      some = omega arith;
      room = omega (arith, small);
      same = ap (λ k. digits_onto k 16 false value (drop (end - 0) bytes)) fuel ∙ ap (λ k. digits_onto 64 16 false value (drop k bytes)) all
          ∙ onto_append 64 16 value behind ∙ ap (λ t. t ++ behind) (onto_nil 16 value);
    })

pub loop-turn-init : goal.loop-turn-init
loop-turn-init c = begins c.args.bytes.now c.args.end c.args.value _ (omega arith) refl

some_left : (n k : ℕ) → n ≢ 0 → n < 16 ^ k → 0 < k
some_left n zero h l = absurd (h (omega (arith, pow-zero 16)))
some_left n (suc k) h l = omega arith

-- one digit more is written
front : (bytes : List ℕ) (end turn glyph g : ℕ) → turn < 16 → 16 ≤ end → end ≤ length bytes → glyph ≡ g → drop (end - 1 - turn) (set bytes (end - 1 - turn) glyph) ≡ g ∷ drop (end - turn) bytes
front bytes end turn glyph g more room within e =
    let at : end - turn - 1 ≡ end - 1 - turn = omega arith in
    ap (λ k. drop k (set bytes k glyph)) (sym at) ∙ drop_written bytes (end - turn) glyph (omega arith) (omega arith) ∙ ap (λ x. x ∷ drop (end - turn) bytes) e

pub returns-then-rest-eq0-clause-written : goal.returns-then-rest-eq0-clause-written
returns-then-rest-eq0-clause-written c =
    let i = c.loop-turn.invariant in
    let long : c.args.end ≤ length c.loop-turn.bytes = omega (arith, c.loop-turn.auto.bytes, c.requires) in
    let fuel : 64 - c.loop-turn.turn ≡ suc (63 - c.loop-turn.turn) = omega (arith, i.some) in
    let written = drop (c.args.end - c.loop-turn.turn) c.loop-turn.bytes in
    front c.loop-turn.bytes c.args.end c.loop-turn.turn c.digit_byte.result (digit_glyph false (c.loop-turn.rest % 16)) i.some (omega (arith, c.requires)) long c.digit_byte.ensures
    ∙ sym (onto_last (63 - c.loop-turn.turn) 16 c.loop-turn.rest written c.if-rest-eq0.true)
    ∙ ap (λ k. digits_onto k 16 false c.loop-turn.rest written) (sym fuel) ∙ i.same

pub loop-turn-preserved : goal.loop-turn-preserved
loop-turn-preserved c =
    let i = c.loop-turn.invariant in
    let turn = c.loop-turn.turn in
    let long : c.args.end ≤ length c.loop-turn.bytes = omega (arith, c.loop-turn.auto.bytes, c.requires) in
    let fuel : 64 - turn ≡ suc (64 - (turn + 1)) = omega (arith, i.some) in
    let one : 16 - turn ≡ suc (16 - (turn + 1)) = omega (arith, i.some) in
    let next : c.args.end - 1 - turn ≡ c.args.end - (turn + 1) = omega arith in
    let room : c.loop-turn.rest / 16 < 16 ^ (16 - (turn + 1)) = room_next 16 c.loop-turn.rest (16 - (turn + 1)) (inr refl) (subst (λ k. c.loop-turn.rest < 16 ^ k) one i.room) in
    let left : 0 < 16 - (turn + 1) = some_left (c.loop-turn.rest / 16) (16 - (turn + 1)) c.if-rest-eq0.false room in
    let written = drop (c.args.end - turn) c.loop-turn.bytes in
    let after = set c.loop-turn.bytes (c.args.end - 1 - turn) c.digit_byte.result in
    record {
      some = omega (arith, left);
      room = room;
      same = ap (λ k. digits_onto (64 - (turn + 1)) 16 false (c.loop-turn.rest / 16) (drop k after)) (sym next)
          ∙ ap (digits_onto (64 - (turn + 1)) 16 false (c.loop-turn.rest / 16)) (front c.loop-turn.bytes c.args.end turn c.digit_byte.result (digit_glyph false (c.loop-turn.rest % 16)) i.some (omega (arith, c.requires)) long c.digit_byte.ensures)
          ∙ sym (onto_more (64 - (turn + 1)) 16 c.loop-turn.rest written c.if-rest-eq0.false)
          ∙ ap (λ k. digits_onto k 16 false c.loop-turn.rest written) (sym fuel) ∙ i.same;
    }

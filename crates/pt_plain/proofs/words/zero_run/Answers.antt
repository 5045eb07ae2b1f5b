use Rattle.std.proofs.Common.{◌≡◌, ℕ, Bool, true, false, ◌+◌, List, refl, ap, sym, ◌∙◌, arith}
use Rattle.std.specs.Prelude.{not, ◌==◌, slice_index, slice_set}
use mir.Val.{bool_byte}
use Rattle.pt_model.specs.Sets.{one_if}
use Rattle.pt_plain.proofs.RunWords.{nonzero_more, run_beyond, zeros_more}
use Rattle.pt_plain.proofs.words.zero_run.Given.{Over}
use Rattle.pt_plain.proofs.words.zero_run.Goals as goal
use Rattle.pt_plain.proofs.words.zero_run.Goals.{After-from-empty}

-- a word is empty, or it isn't
one_of_both : (b : Bool) → bool_byte b + one_if (not b) ≡ 1
one_of_both true = refl
one_of_both false = refl

-- the word here adds to one of the two counts
adds : (g : Over) (c : After-from-empty g) → c.from-empty.result + one_if (not (slice_index c.args.words.now (c.entry_place-place.result + c.loop-done.done) == 0)) ≡ 1
adds g c =
    let words = c.args.words.now in
    let place = c.entry_place-place.result in
    let i = c.loop-done.done in
    let here : slice_index c.loop-done.words (place + i) ≡ slice_index words (place + i) =
    ap (λ (ws : List ℕ). slice_index ws (place + i)) c.loop-done.invariant.set ∙ run_beyond words place i 0 0 (place + i) (omega arith) in
    (λ j. c.from-empty.ensures j + one_if (not (sym here j == 0))) ∙ one_of_both (slice_index c.loop-done.words (place + i) == 0)

pub overflow_add-empty : goal.overflow_add-empty
overflow_add-empty g c = let number = c.loop-done.invariant.number in let one = adds g (goal.at.overflow_add-empty g c).After-from-empty in omega arith

pub loop-done-preserved : goal.loop-done-preserved
loop-done-preserved g c =
    let words = c.args.words.now in
    let place = c.entry_place-place.result in
    let i = c.loop-done.done in
    let inv = c.loop-done.invariant in
    let number = inv.number in
    let one = adds g (goal.at.loop-done-preserved g c).After-from-empty in
    let more = nonzero_more words place i in
    record {
      set = ap (λ (ws : List ℕ). slice_set ws (place + i) 0) inv.set ∙ zeros_more words place i;
      number = omega (arith, number, one, more);
    }

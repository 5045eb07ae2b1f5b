use Rattle.std.proofs.Common.{◌≡◌, ℕ, ◌+◌, inl, inr, ap, ◌∙◌, arith}
use Rattle.std.specs.Prelude.{slice_index}
use Rattle.std.proofs.lemmas.Bool.{cases_eq}
use Rattle.std.proofs.lemmas.Nat.{le_or_l, le_or_r}
use Rattle.pt_plain.proofs.words.is_zero_run.Goals as goal

pub loop-looked-preserved : goal.loop-looked-preserved
loop-looked-preserved g c =
    let words = c.args.words.now in
    let place = c.entry_place-place.result in
    let old = c.loop-looked.all in
    let word = slice_index words (place + c.loop-looked.looked) in
    let left = le_or_l old word in
    let right = le_or_r old word in
    record {
      zero = λ none j less. elim (cases_eq j c.loop-looked.looked) [
        | inl e ↦ ap (λ (k : ℕ). slice_index words (place + k)) e ∙ (let z : word ≡ 0 = omega arith in z)
        | inr ne ↦ c.loop-looked.invariant.zero (omega arith) j (omega arith)
      ];
    }

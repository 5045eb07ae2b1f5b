-- How many words a closed space has.
use Rattle.std.proofs.Common.{◌≡◌, ℕ, ◌+◌, ◌-◌, ◌*◌, ◌/◌, ◌^◌, List, length, ap, sym, subst, ◌∙◌, arith}
use Rattle.std.proofs.lemmas.Nat.{div-mul-add}
use Rattle.pt_model.specs.Layout.{Layout}
use Rattle.pt_model.specs.Words.{IsSpace, frames_in}
use Rattle.pt_closed.specs.Closed.{IsClosed}

-- the words of a closed space are those of a space
pub is_space : (f : Layout) (n : ℕ) (words : List ℕ) → IsClosed f n words → IsSpace f words
is_space f n words closed =
    let e = closed.lawful.sizes.words_are in
    let some = closed.lawful.sizes.some_frame in
    let whole : length words ≡ 1 + n * (2 ^ f.index + 1) = omega arith in
    let behind : length words - 1 ≡ n * (2 ^ f.index + 1) + 0 = omega arith in
    let frames : frames_in f words ≡ n = ap (λ (x : ℕ). x / (2 ^ f.index + 1)) behind ∙ div-mul-add n (2 ^ f.index + 1) 0 (omega arith) in
    record {
      whole = subst (λ (k : ℕ). length words ≡ 1 + k * (2 ^ f.index + 1)) (sym frames) whole;
      some = omega arith;
    }

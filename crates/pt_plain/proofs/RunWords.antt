-- Words of which a run is set to zero, and how many of them weren't.
use Rattle.std.proofs.Common.{◌≡◌, ℕ, zero, suc, ◌+◌, ◌*◌, ◌≤◌, List, refl, ap, sym, ◌∙◌, arith, add-one, get_or-set_other}
use Rattle.std.specs.Prelude.{◌==◌, not, slice_index, slice_set}
use Rattle.pt_model.specs.Sets.{one_if}
use Rattle.pt_plain.specs.Owner.{nonzero_in, set_run}

-- those from the end of a run on are as they were
pub run_beyond : (words : List ℕ) (place count word step at : ℕ) → place + count ≤ at → slice_index (set_run words place count word step) at ≡ slice_index words at
run_beyond words place zero word step at le = refl
run_beyond words place (suc count) word step at le =
    get_or-set_other (set_run words place count word step) (place + count) at (word + count * step) 0 (λ e. omega arith)
    ∙ run_beyond words place count word step at (omega arith)

pub zeros_more : (words : List ℕ) (place i : ℕ) → slice_set (set_run words place i 0 0) (place + i) 0 ≡ set_run words place (i + 1) 0 0
zeros_more words place i =
    let none : 0 ≡ 0 + i * 0 = omega arith in
    (λ j. slice_set (set_run words place i 0 0) (place + i) (none j)) ∙ ap (λ (k : ℕ). set_run words place k 0 0) (sym (add-one i))

-- with one word more
pub nonzero_more : (words : List ℕ) (place i : ℕ) → nonzero_in words place i + one_if (not (slice_index words (place + i) == 0)) ≡ nonzero_in words place (i + 1)
nonzero_more words place i = ap (nonzero_in words place) (sym (add-one i))

use Rattle.std.proofs.Common.{◌≡◌, ℕ, ◌^◌, ◌<◌, take, false, length, List}
use Rattle.std.specs.Fmt.{digits}
use Rattle.pt_stream.proofs.numbers.read_digits.Given as goal

-- the digits before `at` are those of the value, which is 0 only where it is all
pub record Reading (text : List ℕ) (base at value : ℕ) : Type 0 where
  pub read : take at text ≡ digits base false value
  pub some : 1 < length text → 0 < value
  pub within : value < 2 ^ 64

abbrev pub invariant-loop-at : goal.invariant-loop-at
invariant-loop-at l = Reading l.text l.base l.at l.value

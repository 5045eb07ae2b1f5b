use Rattle.std.proofs.Common.{◌≡◌, ℕ, ◌-◌, ◌^◌, ◌<◌, ◌++◌, drop, false, List}
use Rattle.std.specs.Fmt.{digits, digits_onto}
use Rattle.pt_stream.proofs.line.write_hex_digits.Given as goal

-- the digits of the rest, before those written, are all; a digit is left for each turn that is left
pub record Writing (bytes old : List ℕ) (end value turn rest : ℕ) : Type 0 where
  pub some : turn < 16
  pub room : rest < 16 ^ (16 - turn)
  pub same : digits_onto (64 - turn) 16 false rest (drop (end - turn) bytes) ≡ digits 16 false value ++ drop end old

abbrev pub invariant-loop-turn : goal.invariant-loop-turn
invariant-loop-turn l = Writing l.bytes l.initial.bytes l.end l.fn.value l.turn l.rest

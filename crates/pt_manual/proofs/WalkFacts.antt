-- One step of a walk, as a loop makes it.
use Rattle.std.proofs.Common.{◌≡◌, ℕ, zero, suc, ◌+◌, ◌-◌, ◌*◌, ◌/◌, ◌%◌, ◌^◌, ◌<◌, List, length, ap, sym, arith, Bool, true, false}
use Rattle.std.specs.Prelude.{bit_and, ◌&&◌, ◌==◌, nat_lt, nat_le}
use Rattle.std.proofs.lemmas.Nat.{and_mask}
use Rattle.std.proofs.lemmas.Bool.{lt-ltb, eq-eqb, lt-leb, and_from}
use Rattle.pt_model.specs.Words.{entry_in, frames_of, root_frame, root_level}
use Rattle.pt_manual.specs.declared.step.Step.{Step}
use Rattle.pt_manual.specs.NineBitWalk.{Manual, walk_by, walk_from, followed}

-- the entry that a loop reads and the step that it gets give the rest of the walk
pub walk_next : (m : Manual) (words : List ℕ) (address tables frame word : ℕ) (read write : Bool) (step : Step) →
    0 < tables →
    word ≡ entry_in 9 words frame (bit_and (address / 2 ^ (12 + 9 * (tables - 1))) 511) →
    step ≡ m.step (m.number (tables - 1)) word →
    walk_from m words address tables frame read write
    ≡ followed words address (m.number (tables - 1)) read write (walk_from m words address (tables - 1)) step
walk_next m words address zero frame word read write step some e s = absurd (omega arith)
walk_next m words address (suc level) frame word read write step some e s =
    let less : suc level - 1 ≡ level = omega arith in
    let word_is : word ≡ entry_in 9 words frame (address / 2 ^ (12 + 9 * level) % 2 ^ 9) =
    rw (less, and_mask (address / 2 ^ (12 + 9 * level)) 9) at e in
    let step_is : step ≡ m.step (m.number level) (entry_in 9 words frame (address / 2 ^ (12 + 9 * level) % 2 ^ 9)) =
    rw (less, word_is) at s in
    rw less
    (ap (followed words address (m.number level) read write (walk_from m words address level)) (sym step_is))

-- a root that names a table, and an address that the tables have
pub walk_is : (m : Manual) (words : List ℕ) (levels input bad_root address : ℕ) →
    root_frame words < frames_of 9 (length words) → root_level words + 1 ≡ levels →
    address < 2 ^ input →
    walk_by m words levels input bad_root address ≡ walk_from m words address levels (root_frame words) true true
walk_is m words levels input bad_root address a b c =
    let t : (nat_lt (root_frame words) (frames_of 9 (length words)) && (root_level words + 1 == levels)) ≡ true =
    and_from (nat_lt (root_frame words) (frames_of 9 (length words))) _ (lt-ltb _ _ a) (eq-eqb _ _ b) in
    let f : nat_le (2 ^ input) address ≡ false = lt-leb _ _ c in
    rw (t, f)

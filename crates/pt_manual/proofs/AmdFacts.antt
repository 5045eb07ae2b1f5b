-- The walk of AMD tables from a good root.
use Rattle.std.proofs.Common.{◌≡◌, ℕ, ◌+◌, ◌*◌, ◌^◌, ◌<◌, ◌≤◌, List, length, true, false}
use Rattle.std.specs.Prelude.{◌&&◌, nat_lt, nat_le}
use Rattle.std.proofs.lemmas.Bool.{lt-ltb, le-leb, lt-leb, and_from}
use Rattle.pt_model.specs.Words.{frames_of, root_frame}
use Rattle.pt_manual.specs.NineBitWalk.{walk_from}
use Rattle.pt_manual.specs.AmdWalk.{manual, mode, walk}

-- a root that names a table of a mode that there is
pub rooted : (words : List ℕ) → root_frame words < frames_of 9 (length words) → 3 ≤ mode words → mode words ≤ 6 →
    (nat_lt (root_frame words) (frames_of 9 (length words)) && (nat_le 3 (mode words) && nat_le (mode words) 6)) ≡ true
rooted words frame low high =
    and_from (nat_lt (root_frame words) (frames_of 9 (length words))) _ (lt-ltb _ _ frame)
    (and_from (nat_le 3 (mode words)) _ (le-leb _ _ low) (le-leb _ _ high))

-- and an address that its tables have
pub walk_is : (words : List ℕ) (address : ℕ) → root_frame words < frames_of 9 (length words) → 3 ≤ mode words → mode words ≤ 6 →
    address < 2 ^ (12 + 9 * mode words) → walk words address ≡ walk_from manual words address (mode words) (root_frame words) true true
walk_is words address frame low high small =
    let past : nat_le (2 ^ (12 + 9 * mode words)) address ≡ false = lt-leb _ _ small in
    rw (rooted words frame low high, past)

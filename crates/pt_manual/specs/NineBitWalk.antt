-- The walk of tables with nine index bits at each level, above an offset of twelve bits.
use Rattle.std.specs.Prelude.{◌≡◌, ◌<◌, ℕ, zero, suc, ◌+◌, ◌-◌, ◌*◌, ◌/◌, ◌%◌, ◌^◌, List, length, nat_lt, nat_le, ◌==◌, ◌&&◌, not, Bool, true, if◌then◌else◌}
use Rattle.pt_model.specs.Words.{entry_in, frame_beginning, frames_of, root_frame, root_level}
use Rattle.pt_manual.specs.EntryBits.{address_of, bits_of}
use Rattle.pt_manual.specs.Granting.{Granted, denied, granted, reserved, allowed}
use Rattle.pt_manual.specs.declared.step.Step.{Step}
use Rattle.pt_manual.specs.declared.step.Step.TheVariants.{NotPresent, Reserved, Page, Next}
use Rattle.pt_manual.specs.declared.walked.Walked.{Walked}
use Rattle.pt_manual.specs.declared.walked.Walked.TheVariants.{None, Alien}
use Rattle.pt_manual.specs.declared.walked.Walked.TheVariants as W

-- whether an address is that of one of the frames
abbrev pub names_frame : (granule : ℕ) → List ℕ → (address : ℕ) → Bool
names_frame granule words address =
    nat_le (2 ^ 32) address && (((address - 2 ^ 32) % 2 ^ granule == 0)
    && nat_lt (frame_beginning granule address) (frames_of (granule - 3) (length words)))

-- how a manual numbers its tables, and its step: what it says of a word in a table of its number
pub record Manual : Type 0 where
  -- the number of a table of `level`, 0 being the lowest
  pub number : (level : ℕ) → ℕ
  pub step : (number word : ℕ) → Step

-- a step that reads a word by its address and its other bits
abbrev pub by_bits : (entry : (number address bits : ℕ) → Step) → (number word : ℕ) → Step
by_bits entry number word = entry number (address_of word) (bits_of word)

-- the page of a step begins within 56 bits, and is of no more than 64
abbrev pub IsInOutput : Step → Type 0
IsInOutput step = (address log2 : ℕ) (read write : Bool) → step ≡ Page address log2 read write → (address < 2 ^ 56) × (log2 < 64)

-- a page as what is granted allows it
abbrev pub page_as : (number out : ℕ) → Granted → Walked
page_as number out denied = None
page_as number out (granted prot) = W.Page out prot
page_as number out reserved = Alien number

-- where a step leads: `next` is the walk from a frame one level down. Permissions are ANDed.
abbrev pub followed : List ℕ → (address number : ℕ) → (read write : Bool) → (ℕ → Bool → Bool → Walked) → Step → Walked
followed words address number read write next NotPresent = None
followed words address number read write next Reserved = Alien number
followed words address number read write next (Page page log2 r w) =
    page_as number (page + address % 2 ^ log2) (allowed (read && r) (write && w))
followed words address number read write next (Next table r w) =
    if names_frame 12 words table
    then next (frame_beginning 12 table) (read && r) (write && w)
    else Alien number

-- the walk from a table that is `tables` levels high; below the lowest table there is none, so that a pointer in it is alien
abbrev pub walk_from : Manual → List ℕ → (address tables frame : ℕ) → (read write : Bool) → Walked
walk_from m words address zero frame read write = Alien (m.number 0)
walk_from m words address (suc level) frame read write =
    followed words address (m.number level) read write (walk_from m words address level)
    (m.step (m.number level) (entry_in 9 words frame (address / 2 ^ (12 + 9 * level) % 2 ^ 9)))

-- the walk from the root, of input addresses of `input` bits. A root that names no frame, or another number of levels, is
-- alien at the number `bad_root`
abbrev pub walk_by : Manual → List ℕ → (levels input bad_root address : ℕ) → Walked
walk_by m words levels input bad_root address =
    if not (nat_lt (root_frame words) (frames_of 9 (length words)) && (root_level words + 1 == levels))
    then Alien bad_root
    else (if nat_le (2 ^ input) address then None
    else walk_from m words address levels (root_frame words) true true)

-- The words of a format of 512 entries over pages of 4 KiB that state the two permissions that every format states, and whose
-- manual reads an entry by its address and its other bits, and numbers the lowest table 1.
use Rattle.std.specs.Prelude.{ℕ, ◌+◌, List}
use Rattle.pt_model.specs.declared.block.Prot.{Prot}
use Rattle.pt_model.specs.Layout.{Layout, Reached, is_common}
use Rattle.pt_format.specs.FourKib.{Entries, Tables, tables}
use Rattle.pt_format.specs.FourKib as FourKib
use Rattle.pt_manual.specs.NineBitWalk.{Manual, by_bits}
use Rattle.pt_manual.specs.declared.step.Step.{Step}
use Rattle.pt_manual.specs.declared.walked.Walked.{Walked}
use Rattle.fmt_nine_bit.specs.OverPages.{reached}
use Rattle.fmt_nine_bit.specs.ManualEntries.{entries_by}

-- what the manual says of an entry, its walk, what is written below an address, and the bits of an input address
pub record CommonWords : Type 0 where
  pub entry : (level address bits : ℕ) → Step
  pub walk : List ℕ → (levels address : ℕ) → Walked
  pub of_leaf : Prot → ℕ
  pub of_pointer : ℕ
  pub input : (levels : ℕ) → ℕ

abbrev pub manual_of : CommonWords → Manual
manual_of w = record { number = λ level. level + 1; step = by_bits w.entry }

abbrev pub entries_of : CommonWords → Entries
entries_of w = entries_by (manual_of w) is_common w.of_leaf w.of_pointer

abbrev pub walk_of : CommonWords → (levels : ℕ) → List ℕ → (address : ℕ) → Reached
walk_of w levels words address = reached (w.walk words levels address)

abbrev pub tables_of : CommonWords → (levels : ℕ) → Tables
tables_of w levels = tables (entries_of w) levels (w.input levels) (walk_of w levels)

abbrev pub layout_of : CommonWords → (levels : ℕ) → Layout
layout_of w levels = FourKib.layout (tables_of w levels)

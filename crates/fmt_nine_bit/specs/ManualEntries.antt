-- The entries of a format of 512 entries over pages of 4 KiB, whose step is a manual's.
use Rattle.std.specs.Prelude.{◌≡◌, ℕ, ◌+◌, ◌*◌, ◌^◌, Bool, true}
use Rattle.pt_model.specs.declared.block.Prot.{Prot}
use Rattle.pt_model.specs.Layout.{may_read, may_write}
use Rattle.pt_format.specs.FourKib.{Entries, IsLeafOf, IsPointerOf}
use Rattle.pt_manual.specs.NineBitWalk.{Manual}
use Rattle.pt_manual.specs.declared.step.Step.TheVariants.{NotPresent, Page, Next}
use Rattle.fmt_nine_bit.specs.OverPages.{step_by}

abbrev pub entries_by : Manual → (states : Prot → Bool) → (of_leaf : Prot → ℕ) → (of_pointer : ℕ) → Entries
entries_by m states of_leaf of_pointer = record { states = states; of_leaf = of_leaf; of_pointer = of_pointer; step = step_by m }

-- the manual reads the words that are written as what they are
pub record ReadsWritten (m : Manual) (e : Entries) : Type 0 where
  pub empty : (level : ℕ) → m.step (m.number level) 0 ≡ NotPresent
  pub leaf_is : (level word out : ℕ) (prot : Prot) → IsLeafOf e level word out prot →
      m.step (m.number level) word ≡ Page (out * 2 ^ 12) (12 + 9 * level) (may_read prot) (may_write prot)
  pub pointer_is : (level word address : ℕ) → IsPointerOf e level word address →
      m.step (m.number level) word ≡ Next address true true

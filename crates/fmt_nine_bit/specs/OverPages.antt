-- What the walks and steps of the manuals find, over pages and in the terms of every format.
use Rattle.std.specs.Prelude.{ℕ, ◌+◌, ◌-◌, ◌/◌, ◌%◌, ◌^◌}
use Rattle.pt_model.specs.Layout.{Found, nothing, page, table, alien, Reached, nowhere, at_byte, strange}
use Rattle.pt_manual.specs.Granting.{Granted, denied, granted, reserved, allowed}
use Rattle.pt_manual.specs.NineBitWalk.{Manual}
use Rattle.pt_manual.specs.declared.walked.Walked.{Walked}
use Rattle.pt_manual.specs.declared.walked.Walked.TheVariants as W
use Rattle.pt_manual.specs.declared.step.Step.{Step}
use Rattle.pt_manual.specs.declared.step.Step.TheVariants.{NotPresent, Reserved, Page, Next}

-- the answer of a walk
abbrev pub reached : Walked → Reached
reached W.None = nowhere
reached (W.Page out prot) = at_byte out prot
reached (W.Alien level) = strange

-- an output page as what is granted allows it
abbrev pub found_page : ℕ → Granted → Found
found_page out denied = nothing
found_page out (granted prot) = page out prot
found_page out reserved = alien

-- the answer of a step, for page `place`
abbrev pub found : (place : ℕ) → Step → Found
found place NotPresent = nothing
found place Reserved = alien
found place (Page address log2 read write) = found_page (address / 2 ^ 12 + place % 2 ^ (log2 - 12)) (allowed read write)
found place (Next address read write) = table address

-- the manual's step at a word of a table of `level`, counted from 0
abbrev pub step_by : Manual → (level word place : ℕ) → Found
step_by m level word place = found place (m.step (m.number level) word)

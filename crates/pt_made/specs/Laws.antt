-- The laws of made scripts.
use Rattle.std.specs.Prelude.{◌≡◌, ℕ, false}
use Rattle.pt_laws.specs.OneText.{IsAmple}
use Rattle.pt_script.specs.declared.whole.Script.{Script}
use Rattle.pt_made.specs.Formats.{machine_in}
use Rattle.pt_made.specs.Made.{IsMade}

-- a number has one made script
abbrev pub OneMade : Type 0
OneMade = (number : ℕ) (s t : Script) → IsMade number s → IsMade number t → s ≡ t

-- in the run of a made script no map lacks frames: no reply says so, and the run in which no line lacks any is that of one
-- owner, where the account decides
abbrev pub MadeLackNoFrames : Type 0
MadeLackNoFrames = (number : ℕ) (s : Script) → IsMade number s → IsAmple (machine_in s) s.body s.tail (λ line. false)

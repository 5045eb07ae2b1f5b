-- What the read and write permissions along a walk allow.
use Rattle.std.specs.Prelude.{Bool, true, false}
use Rattle.pt_model.specs.declared.block.Prot.{Prot}
use Rattle.pt_model.specs.declared.block.Prot.TheVariants.{Read, ReadWrite}

pub data Granted : Type 0 where
  denied : Granted
  granted : Prot → Granted
  reserved : Granted

-- a page that may be written and not read is no page of a profile
abbrev pub allowed : (read write : Bool) → Granted
allowed true true = granted ReadWrite
allowed true false = granted Read
allowed false true = reserved
allowed false false = denied

-- What the devices of this crate are to their callers, and what a call makes of them.
use Rattle.std.specs.Prelude.{ℕ, ◌+◌, ◌++◌, List, take, drop, Option, Result, Ok, Err}
use Rattle.pt_stream.specs.Causes.{next_count}

-- a source in memory that fails where it is told to
pub record MemoryInput : Type 0 where
  pub left : List ℕ
  pub given : ℕ
  -- the most bytes that a call gives
  pub piece : ℕ
  -- the numbers of the calls that fail; the first call is number 1
  pub failing : List ℕ
  pub calls : ℕ
  pub faults : ℕ

-- after a call with this answer
abbrev pub after_take : {E : Type 0} → MemoryInput → Result ℕ E → MemoryInput
after_take source (Ok n) = record source { left = drop n source.left; given = source.given + n; calls = next_count source.calls }
after_take source (Err _) = record source { calls = next_count source.calls; faults = next_count source.faults }

-- a source in memory that never fails
pub record SureInput : Type 0 where
  pub left : List ℕ
  pub given : ℕ

-- a sink in memory that fails where it is told to, and where it is full
pub record MemoryOutput : Type 0 where
  pub held : List ℕ
  -- the most bytes that it holds
  pub room : ℕ
  -- the most bytes that a call appends
  pub piece : ℕ
  -- the numbers of the calls that fail; the first call is number 1
  pub failing : List ℕ
  pub calls : ℕ
  pub faults : ℕ

-- after a call on these bytes with this answer
abbrev pub after_put : {E : Type 0} → MemoryOutput → List ℕ → Result ℕ E → MemoryOutput
after_put sink bytes (Ok n) = record sink { held = sink.held ++ take n bytes; calls = next_count sink.calls }
after_put sink bytes (Err _) = record sink { calls = next_count sink.calls; faults = next_count sink.faults }

-- a reader as a source: what is left of it, where the reader's type says so
pub record StdInput : Type 0 where
  pub left : Option (List ℕ)
  pub given : ℕ
  pub faults : ℕ

-- a writer as a sink: what it holds, where the writer's type says so
pub record StdOutput : Type 0 where
  pub held : Option (List ℕ)
  pub faults : ℕ

-- the count of faults after a call with this answer
abbrev pub faults_after : {T E : Type 0} → ℕ → Result T E → ℕ
faults_after before (Ok _) = before
faults_after before (Err _) = next_count before

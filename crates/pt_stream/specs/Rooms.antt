-- How many bytes a sink can hold. `None` in place of the room tells nothing, and then a clause on the room says nothing. A sink
-- that tells its room tells its bytes too.
use Rattle.std.specs.Prelude.{◌≡◌, ℕ, ◌-◌, ◌<◌, ◌≤◌, List, [], ◌∷◌, length, ⊤, OnErr, Result, Option, None, Some}
use Rattle.std.specs.Io.KnownBytes.{Appends}
use Rattle.pt_stream.specs.Bytes.{AppendsPart}

-- the bytes held are no more than the room
abbrev pub IsWithin : (room : Option ℕ) (held : Option (List ℕ)) → Type 0
IsWithin None held = ⊤
IsWithin (Some room) None = ⊥
IsWithin (Some room) (Some bytes) = length bytes ≤ room

-- the bytes held number the room
abbrev pub IsFull : (room : Option ℕ) (held : Option (List ℕ)) → Type 0
IsFull None held = ⊤
IsFull (Some room) None = ⊥
IsFull (Some room) (Some bytes) = length bytes ≡ room

-- a call leaves the room as it was, and the bytes within it; it fails only where they number the room
pub record KeepsRoom {T E : Type 0} (room room' : Option ℕ) (held' : Option (List ℕ)) (result : Result T E) : Type 0 where
  pub same : room' ≡ room
  pub within : IsWithin room' held'
  pub failed : OnErr result (IsFull room' held')

-- the bytes are no longer than the room that is left
abbrev pub Fits : (room : Option ℕ) (held : Option (List ℕ)) (bytes : List ℕ) → Type 0
Fits (Some room) (Some held) bytes = length bytes ≤ room - length held
Fits room held bytes = ⊤

-- the bytes are longer than the room that is left
abbrev pub IsTooLong : (room : Option ℕ) (held : Option (List ℕ)) (bytes : List ℕ) → Type 0
IsTooLong (Some room) (Some held) bytes = room - length held < length bytes
IsTooLong room held bytes = ⊤

-- all the bytes were put, and where the room is told they are no longer than what was left of it
pub record IsPut (room : Option ℕ) (held held' : Option (List ℕ)) (bytes : List ℕ) : Type 0 where
  pub appended : Appends held held' bytes
  pub fits : Fits room held bytes

-- some of the bytes from the front were put, but not all, and where the room is told they are longer than what was left of it
pub record IsCutOff (room : Option ℕ) (held held' : Option (List ℕ)) (bytes : List ℕ) : Type 0 where
  pub part : AppendsPart held held' bytes
  pub too_long : IsTooLong room held bytes

-- a sink in memory tells its room where none of its calls is told to fail
abbrev pub told_room : (failing : List ℕ) (room : ℕ) → Option ℕ
told_room [] room = Some room
told_room (call ∷ calls) room = None

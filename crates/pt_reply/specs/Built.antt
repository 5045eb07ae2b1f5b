-- The commands that are run one by one, with no fork.
use Rattle.std.specs.Prelude.{ℕ, Bool, true, false}
use Rattle.pt_model.specs.declared.command.What.{What}
use Rattle.pt_model.specs.declared.command.What.TheVariants.{Map, Unmap, Lookup, Dump, Release}
use Rattle.pt_model.specs.Layout.{Layout}
use Rattle.pt_model.specs.Run.{Machine}

-- maps, unmaps, lookups, dumps and releases
abbrev pub is_built : What → Bool
is_built (Map va pa len prot) = true
is_built (Unmap va len) = true
is_built (Lookup va) = true
is_built Dump = true
is_built Release = true
is_built _ = false

-- what runs a script of this format, with so many levels from the start and so many frames
abbrev pub machine : Layout → (levels frames : ℕ) → Machine
machine f levels frames = record { layout = f; levels = levels; frames = frames }

-- What runs a script of a format, and the format of a number.
use Rattle.std.specs.Prelude.{ℕ, ◌%◌, List, [], ◌∷◌, get_or}
use Rattle.pt_model.specs.declared.command.Name.{Name}
use Rattle.pt_model.specs.declared.command.Name.TheVariants.{AmdV1, VtdSs3, VtdSs4, VtdSs5, X86L4, X86L5, Vmsa4, Vmsa16, Vmsa64, Sv39, Sv48, Sv57}
use Rattle.pt_model.specs.Run.{Machine}
use Rattle.pt_script.specs.declared.whole.Script.{Script}
use Rattle.pt_names.specs.Names.{layout_of}

-- what runs commands of a format, and what runs a script
abbrev pub machine_of : Name → (levels frames : ℕ) → Machine
machine_of format levels frames = record { layout = layout_of format; levels = levels; frames = frames }

abbrev pub machine_in : Script → Machine
machine_in s = machine_of s.format s.levels s.frames

-- the formats in order
abbrev pub all_names : List Name
all_names = AmdV1 ∷ VtdSs3 ∷ VtdSs4 ∷ VtdSs5 ∷ X86L4 ∷ X86L5 ∷ Vmsa4 ∷ Vmsa16 ∷ Vmsa64 ∷ Sv39 ∷ Sv48 ∷ Sv57 ∷ []

-- the format of a number: they are counted from 0 on, and begin again behind the last
abbrev pub name_at : (number : ℕ) → Name
name_at number = get_or all_names (number % 12) AmdV1

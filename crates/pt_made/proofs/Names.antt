-- What each name of a format has: its levels, its frames, and that a text states its levels.
use Rattle.std.proofs.Common.{◌≡◌, ◌-◌, ◌^◌, true, refl}
use Rattle.pt_model.specs.declared.command.Name.{Name}
use Rattle.pt_model.specs.declared.command.Name.TheVariants.{AmdV1, VtdSs3, VtdSs4, VtdSs5, X86L4, X86L5, Vmsa4, Vmsa16, Vmsa64, Sv39, Sv48, Sv57}
use Rattle.pt_model.specs.Layout.{is_size}
use Rattle.pt_script.specs.Lines.{levels_of, frame_limit, are_stated_levels}
use Rattle.pt_names.specs.Names.{layout_of}

pub record HasNumbers (name : Name) : Type 0 where
  pub levels : levels_of name ≡ (layout_of name).start
  pub frames : frame_limit name ≡ 2 ^ (27 - (layout_of name).granule)
  pub pages : is_size (layout_of name) 0 ≡ true
  pub stated : are_stated_levels name (levels_of name) ≡ true

pub numbers_of : (name : Name) → HasNumbers name
numbers_of AmdV1 = record { levels = refl; frames = refl; pages = refl; stated = refl }
numbers_of VtdSs3 = record { levels = refl; frames = refl; pages = refl; stated = refl }
numbers_of VtdSs4 = record { levels = refl; frames = refl; pages = refl; stated = refl }
numbers_of VtdSs5 = record { levels = refl; frames = refl; pages = refl; stated = refl }
numbers_of X86L4 = record { levels = refl; frames = refl; pages = refl; stated = refl }
numbers_of X86L5 = record { levels = refl; frames = refl; pages = refl; stated = refl }
numbers_of Vmsa4 = record { levels = refl; frames = refl; pages = refl; stated = refl }
numbers_of Vmsa16 = record { levels = refl; frames = refl; pages = refl; stated = refl }
numbers_of Vmsa64 = record { levels = refl; frames = refl; pages = refl; stated = refl }
numbers_of Sv39 = record { levels = refl; frames = refl; pages = refl; stated = refl }
numbers_of Sv48 = record { levels = refl; frames = refl; pages = refl; stated = refl }
numbers_of Sv57 = record { levels = refl; frames = refl; pages = refl; stated = refl }

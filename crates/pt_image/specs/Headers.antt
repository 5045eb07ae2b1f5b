-- The header of an image, and what is wrong with one. The formats are numbered from 0 in the order of their names.
use Rattle.std.specs.Prelude.{◌≡◌, ◌⊎◌, ℕ, ◌<◌, ◌≤◌, List, [], ◌∷◌, Option, None, Some, length, take, codes, slice_get}
use Rattle.pt_model.specs.declared.command.Name.{Name}
use Rattle.pt_model.specs.declared.command.Name.TheVariants.{AmdV1, VtdSs3, VtdSs4, VtdSs5, X86L4, X86L5, Vmsa4, Vmsa16, Vmsa64, Sv39, Sv48, Sv57}
use Rattle.pt_model.specs.Layout.{Layout}
use Rattle.pt_model.specs.Words.{frame_limit}
use Rattle.pt_names.specs.Names.{layout_of}
use Rattle.pt_image.specs.Bytes.{image_length, number_at}
use Rattle.pt_image.specs.declared.fault.ImageFault.{ImageFault}
use Rattle.pt_image.specs.declared.fault.ImageFault.TheVariants.{Truncated, Header}
use Rattle.pt_image.specs.declared.header.Header as header

abbrev pub names : List Name
names = AmdV1 ∷ VtdSs3 ∷ VtdSs4 ∷ VtdSs5 ∷ X86L4 ∷ X86L5 ∷ Vmsa4 ∷ Vmsa16 ∷ Vmsa64 ∷ Sv39 ∷ Sv48 ∷ Sv57 ∷ []

-- the format of a number
abbrev pub name_at : (number : ℕ) → Option Name
name_at number = slice_get names number

abbrev pub IsMarked : List ℕ → Type 0
IsMarked image = take 8 image ≡ codes "IOPTIMG1"

-- the number of levels is one with which a space of the format may start
pub record AreLevels (f : Layout) (levels : ℕ) : Type 0 where
  pub low : f.start ≤ levels
  pub high : levels ≤ f.levels

-- the number of frames is one of a space of the format
pub record AreFrames (f : Layout) (frames : ℕ) : Type 0 where
  pub some : 1 ≤ frames
  pub few : frames ≤ frame_limit f

-- a header with the fields of an image, each of which is right
pub record HasFields (image : List ℕ) (h : header.Header) : Type 0 where
  pub marked : IsMarked image
  pub number_is : h.number ≡ number_at 8 1 image
  pub levels_is : h.levels ≡ number_at 9 1 image
  pub frames_is : h.frames ≡ number_at 10 4 image
  pub name : Name
  pub name_is : name_at h.number ≡ Some name
  pub levels : AreLevels (layout_of name) h.levels
  pub frames : AreFrames (layout_of name) h.frames
  pub length_is : h.length ≡ image_length (layout_of name) h.frames

-- the field at an offset is wrong, and those before it are right
pub data IsWrongAt (image : List ℕ) : (offset : ℕ) → Type 0 where
  no_mark : ¬ IsMarked image → IsWrongAt image 0
  no_format : IsMarked image → name_at (number_at 8 1 image) ≡ None → IsWrongAt image 8
  no_levels : IsMarked image → (name : Name) → name_at (number_at 8 1 image) ≡ Some name → ¬ AreLevels (layout_of name) (number_at 9 1 image) → IsWrongAt image 9
  no_frames : IsMarked image → (name : Name) → name_at (number_at 8 1 image) ≡ Some name → AreLevels (layout_of name) (number_at 9 1 image) →
      ¬ AreFrames (layout_of name) (number_at 10 4 image) → IsWrongAt image 10

-- an image has fewer bytes than its header, or than its header says
abbrev pub IsShort : List ℕ → (want : ℕ) → Type 0
IsShort image want = ((want ≡ 14) × (length image < 14)) ⊎ ((h : header.Header) × HasFields image h × (want ≡ h.length) × (14 ≤ length image) × (length image < h.length))

-- the header has this fault, and none that is tested before it
abbrev pub HasHeaderFault : List ℕ → ImageFault → Type 0
HasHeaderFault image (Truncated have want) = (have ≡ length image) × IsShort image want
HasHeaderFault image (Header offset) = (14 ≤ length image) × IsWrongAt image offset
HasHeaderFault image x = ⊥

-- the header of an image has these fields, where they are right
abbrev pub ReadsBack : (number levels n : ℕ) → (image : List ℕ) → Type 0
ReadsBack number levels n image =
    (name : Name) → name_at number ≡ Some name → AreLevels (layout_of name) levels → AreFrames (layout_of name) n →
    HasFields image (record { number = number; levels = levels; frames = n; length = image_length (layout_of name) n })

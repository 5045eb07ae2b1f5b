-- Cases of the fields of a header, on both sides of each limit.
use Rattle.std.proofs.Common.{◌≡◌, inl, ℕ, List, [], ◌∷◌, ◌++◌, refl, ap, arith}
use Rattle.std.specs.Prelude.{None, Some, codes, slice_index}
use Rattle.pt_model.specs.declared.command.Name.TheVariants.{AmdV1, VtdSs3, Vmsa64, Sv57}
use Rattle.pt_names.specs.Names.{layout_of}
use Rattle.pt_image.specs.Bytes.{image_length, number_at}
use Rattle.pt_image.specs.Headers.{AreFrames, AreLevels, HasHeaderFault, name_at, no_mark, no_format, no_levels, no_frames}
use Rattle.pt_image.specs.declared.fault.ImageFault.TheVariants.{Truncated, Header}

-- the formats have the numbers 0 to 11
numbers : (name_at 0 ≡ Some AmdV1) × (name_at 1 ≡ Some VtdSs3) × (name_at 11 ≡ Some Sv57) × (name_at 12 ≡ None)
numbers = (refl, refl, refl, refl)

-- AMD's table starts with 3 to 6 levels, and the others with their own number
levels : ¬ AreLevels (layout_of AmdV1) 2 × AreLevels (layout_of AmdV1) 3 × AreLevels (layout_of AmdV1) 6 × ¬ AreLevels (layout_of AmdV1) 7
    × ¬ AreLevels (layout_of VtdSs3) 2 × AreLevels (layout_of VtdSs3) 3 × ¬ AreLevels (layout_of VtdSs3) 4
levels = (
  (λ a. let low = a.low in omega arith),
  record { low = omega arith; high = omega arith },
  record { low = omega arith; high = omega arith },
  (λ a. let high = a.high in omega arith),
  (λ a. let low = a.low in omega arith),
  record { low = omega arith; high = omega arith },
  (λ a. let high = a.high in omega arith),
)

-- a space has 1 to 32,768 frames of 4 KiB, or 1 to 2,048 of 64 KiB
frames : ¬ AreFrames (layout_of VtdSs3) 0 × AreFrames (layout_of VtdSs3) 1 × AreFrames (layout_of VtdSs3) 32768 × ¬ AreFrames (layout_of VtdSs3) 32769
    × AreFrames (layout_of Vmsa64) 2048 × ¬ AreFrames (layout_of Vmsa64) 2049
frames = (
  (λ a. let some = a.some in omega arith),
  record { some = omega arith; few = omega arith },
  record { some = omega arith; few = omega arith },
  (λ a. let few = a.few in omega arith),
  record { some = omega arith; few = omega arith },
  (λ a. let few = a.few in omega arith),
)

-- an image of one frame has 4,118 bytes, or 65,558
lengths : (image_length (layout_of VtdSs3) 1 ≡ 4118) × (image_length (layout_of Vmsa64) 1 ≡ 65558)
lengths = (refl, refl)

-- the field that is wrong, each time the first
abbrev fields : (number levels frames : ℕ) → List ℕ
fields number levels frames = codes "IOPTIMG1" ++ number ∷ levels ∷ frames ∷ 0 ∷ 0 ∷ 0 ∷ []

wrong : HasHeaderFault (codes "IOPTIMG2" ++ 12 ∷ 0 ∷ 0 ∷ 0 ∷ 0 ∷ 0 ∷ []) (Header 0) × HasHeaderFault (fields 12 0 0) (Header 8) × HasHeaderFault (fields 1 2 0) (Header 9)
    × HasHeaderFault (fields 1 3 0) (Header 10) × HasHeaderFault (codes "IOPTIMG1" ++ 1 ∷ 3 ∷ 1 ∷ 0 ∷ 0 ∷ []) (Truncated 13 14)
unfolding number_at
wrong = (
  (omega arith, no_mark (λ m. let last : 50 ≡ 49 = ap (λ (xs : List ℕ). slice_index xs 7) m in omega arith)),
  (omega arith, no_format refl refl),
  (omega arith, no_levels refl VtdSs3 refl (λ a. let low = a.low in omega arith)),
  (omega arith, no_frames refl VtdSs3 refl (record { low = omega arith; high = omega arith }) (λ a. let some = a.some in omega arith)),
  (refl, inl (refl, omega arith)),
)

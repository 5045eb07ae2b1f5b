-- The laws of formats.
use Rattle.std.specs.Prelude.{◌≡◌, ◌≢◌, ℕ, ◌+◌, ◌*◌, ◌<◌, ◌≤◌, IsTrue, Bool, false}
use Rattle.pt_model.specs.declared.block.Prot.{Prot}
use Rattle.pt_model.specs.declared.block.Prot.TheVariants.{Read, ReadWrite}
use Rattle.pt_model.specs.Layout.{Layout, is_size, level_of_size}
use Rattle.pt_format.specs.Words.{MayBeLeaf, IsTableLevel, IsTableAddress}

-- a layout has the constants of a format
pub record HasConstants (f : Layout) (granule index input output start levels : ℕ) (grows signed : Bool) : Type 0 where
  pub granule_is : f.granule ≡ granule
  pub index_is : f.index ≡ index
  pub input_is : f.input ≡ input
  pub output_is : f.output ≡ output
  pub start_is : f.start ≡ start
  pub levels_is : f.levels ≡ levels
  pub grows_is : f.grows ≡ grows
  pub signed_is : f.signed ≡ signed

pub record IsLayout (f : Layout) : Type 0 where
  pub granule_low : 12 ≤ f.granule
  pub granule_high : f.granule ≤ 16
  pub index_is : f.index + 3 ≡ f.granule
  pub start_low : 3 ≤ f.start
  pub start_high : f.start ≤ f.levels
  pub levels_high : f.levels ≤ 6
  pub fixed : f.grows ≡ false → f.start ≡ f.levels
  pub input_low : f.granule < f.input
  pub input_high : f.input ≤ 64
  pub pages_high : f.input ≤ f.granule + 52
  pub has_levels : f.input ≤ f.granule + f.index * f.levels
  pub output_low : 48 ≤ f.output
  pub output_high : f.output ≤ 56
  pub has_pages : IsTrue (is_size f 0)
  pub sizes_low : (k : ℕ) → IsTrue (is_size f k) → level_of_size f k < f.start
  pub states_read : IsTrue (f.states Read)
  pub states_both : IsTrue (f.states ReadWrite)

pub record WordsDiffer (f : Layout) : Type 0 where
  pub leaf_some : (level log2 out part : ℕ) (prot : Prot) → MayBeLeaf f level log2 out prot part →
      f.leaf level log2 out prot part ≢ 0
  pub pointer_some : (level address : ℕ) → IsTableLevel f level → IsTableAddress f address →
      f.pointer level address ≢ 0
  pub apart : (level log2 out part address : ℕ) (prot : Prot) → MayBeLeaf f level log2 out prot part →
      IsTableLevel f level → IsTableAddress f address →
      f.leaf level log2 out prot part ≢ f.pointer level address
  pub one_address : (level a b : ℕ) → IsTableLevel f level → IsTableAddress f a → IsTableAddress f b →
      f.pointer level a ≡ f.pointer level b → a ≡ b
  pub one_size : (level j k out out' part part' : ℕ) (p q : Prot) →
      MayBeLeaf f level j out p part → MayBeLeaf f level k out' q part' →
      f.leaf level j out p part ≡ f.leaf level k out' q part' → (j ≡ k) × (p ≡ q)

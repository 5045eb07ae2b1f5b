-- A format of 512 entries over pages of 4 KiB, whose step and walk are a manual's.
use Rattle.std.specs.Prelude.{◌≡◌, ℕ, ◌%◌, ◌^◌, ◌≤◌, List, Bool, true, false}
use Rattle.pt_model.specs.declared.block.Prot.{Prot}
use Rattle.pt_model.specs.Layout.{Layout, Reached, may_read, may_write}
use Rattle.pt_format.specs.Words.{IsLeaf, IsPointer}
use Rattle.pt_manual.specs.NineBitWalk.{Manual, walk_by}
use Rattle.pt_manual.specs.declared.step.Step.TheVariants.{NotPresent, Page, Next}
use Rattle.fmt_nine_bit.specs.OverPages.{reached, step_by}

-- what is written
pub record Words : Type 0 where
  -- the bits of an output address
  pub output : ℕ
  pub sizes : List ℕ
  pub states : Prot → Bool
  pub pointer : (level address : ℕ) → ℕ
  pub leaf : (level log2 out : ℕ) → Prot → (part : ℕ) → ℕ

-- how high a tree may be, and the manual's walk
pub record Trees : Type 0 where
  -- the bits of an input address
  pub input : ℕ
  pub start : ℕ
  pub levels : ℕ
  pub grows : Bool
  pub walk : List ℕ → (address : ℕ) → Reached

abbrev pub layout_of : Words → Manual → Trees → Layout
layout_of w m t = record {
  granule = 12;
  index = 9;
  input = t.input;
  output = w.output;
  start = t.start;
  levels = t.levels;
  grows = t.grows;
  signed = false;
  sizes = w.sizes;
  states = w.states;
  pointer = w.pointer;
  leaf = w.leaf;
  step = step_by m;
  walk = t.walk;
}

-- trees of so many levels, and the walk through as many
abbrev pub trees_of : Manual → (levels input bad_root : ℕ) → Trees
trees_of m levels input bad_root = record {
  input = input;
  start = levels;
  levels = levels;
  grows = false;
  walk = λ words address. reached (walk_by m words levels input bad_root address);
}

abbrev pub layout_by : Words → Manual → (levels input bad_root : ℕ) → Layout
layout_by w m levels input bad_root = layout_of w m (trees_of m levels input bad_root)

-- the manual gives a page at a word
pub record GivesPageOf (m : Manual) (level word : ℕ) (prot : Prot) : Type 0 where
  pub address : ℕ
  pub log2 : ℕ
  pub whole : address % 2 ^ 12 ≡ 0
  pub wide : 12 ≤ log2
  pub step_is : m.step (m.number level) word ≡ Page address log2 (may_read prot) (may_write prot)

-- the manual reads what the format writes as what it is
pub record IsReadBy (m : Manual) (f : Layout) : Type 0 where
  pub empty : (level : ℕ) → m.step (m.number level) 0 ≡ NotPresent
  pub leaf_is : (level word log2 : ℕ) (prot : Prot) → IsLeaf f level word log2 prot → GivesPageOf m level word prot
  pub pointer_is : (level word address : ℕ) → IsPointer f level word address → m.step (m.number level) word ≡ Next address true true

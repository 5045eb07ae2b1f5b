-- What a word reads as.
use Rattle.std.specs.Prelude.{◌≡◌, ◌≢◌, ℕ}
use Rattle.pt_model.specs.declared.block.Prot.{Prot}
use Rattle.pt_model.specs.Layout.{Layout}
use Rattle.pt_format.specs.declared.read.Read.{Read}
use Rattle.pt_format.specs.declared.read.Read.TheVariants.{Empty, Table, Leaf, Alien}
use Rattle.pt_format.specs.Words.{MayBeLeaf, IsTableAddress, IsTableLevel, IsLeaf, IsPointer}

pub record IsAlien (f : Layout) (level word : ℕ) : Type 0 where
  pub not_empty : word ≢ 0
  pub no_pointer : (address : ℕ) → IsTableLevel f level → IsTableAddress f address → word ≢ f.pointer level address
  pub no_leaf : (log2 out part : ℕ) (prot : Prot) → MayBeLeaf f level log2 out prot part → word ≢ f.leaf level log2 out prot part

abbrev pub ReadsAs : Layout → ℕ → ℕ → Read → Type 0
ReadsAs f level word Empty = word ≡ 0
ReadsAs f level word (Table address) = IsPointer f level word address
ReadsAs f level word (Leaf log2 prot) = IsLeaf f level word log2 prot
ReadsAs f level word Alien = IsAlien f level word

-- What the text of a reply can tell.
use Rattle.std.specs.Prelude.{ℕ, ◌+◌, ◌-◌, ◌++◌, nat_lt, Bool, true, false, IsTrue, List, All, codes}
use Rattle.std.specs.List.{list_all}
use Rattle.pt_model.specs.Numbers.{decimal, hexadecimal}
use Rattle.pt_model.specs.declared.block.Block.{Block}
use Rattle.pt_model.specs.declared.block.Prot.{Prot}
use Rattle.pt_model.specs.declared.reply.UnmapAnswer.{UnmapAnswer}
use Rattle.pt_model.specs.declared.reply.UnmapAnswer.TheVariants as unmapping
use Rattle.pt_model.specs.declared.reply.ForkAnswer.{ForkAnswer}
use Rattle.pt_model.specs.declared.reply.ForkAnswer.TheVariants as forking
use Rattle.pt_model.specs.declared.reply.Answer.{Answer}
use Rattle.pt_model.specs.declared.reply.Answer.TheVariants.{Unmap, Dump, Fork, Census}
use Rattle.pt_model.specs.Layout.{Layout, IsLegalBlock}
use Rattle.pt_model.specs.Text.{part_word, prot_text, words_of}

-- each block of the format is smaller than its space
abbrev pub has_small_blocks : Layout → Bool
has_small_blocks f = list_all (λ k. nat_lt (k + f.granule) f.input) f.sizes

-- a block that a reply names is legal and smaller than the space, so that its address and its bytes are below 2 ^ 64
pub record IsNameable (f : Layout) (b : Block) : Type 0 where
  pub legal : IsLegalBlock f b
  pub small : IsTrue (has_small_blocks f)

-- a block that a dump lists has words besides: the format states its permission
pub record IsListable (f : Layout) (b : Block) : Type 0 where
  pub nameable : IsNameable f b
  pub stated : IsTrue (f.states b.prot)

abbrev pub NamesLegalBlock : Layout → UnmapAnswer → Type 0
NamesLegalBlock f (unmapping.Cuts block) = IsNameable f block
NamesLegalBlock f other = Unit {0}

abbrev pub CutsLegalBlock : Layout → ForkAnswer → Type 0
CutsLegalBlock f (forking.Cuts block) = IsNameable f block
CutsLegalBlock f other = Unit {0}

abbrev pub IsTellable : Layout → Answer → Type 0
IsTellable f (Unmap a) = NamesLegalBlock f a
IsTellable f (Fork a) = CutsLegalBlock f a
IsTellable f (Dump d) = All (IsListable f) d.lowest
IsTellable f other = Unit {0}

-- whether an answer is told in one short line: a dump has a line for each block, and a census four numbers
abbrev pub is_short : Answer → Bool
is_short (Dump d) = false
is_short (Census c) = false
is_short other = true

-- Parts of a line.

-- what is told behind the number of a command's line
abbrev pub numbered : (number : ℕ) → (text : List ℕ) → List ℕ
numbered number text = decimal number ++ codes " " ++ text ++ codes "\n"

-- an output address, in bytes, and what is permitted
abbrev pub output_text : (address : ℕ) → Prot → List ℕ
output_text address prot = hexadecimal address ++ codes " " ++ prot_text prot

-- how many words a block has, and the first and the last of them
abbrev pub words_text : Layout → Block → List ℕ
words_text f b =
    decimal (words_of f b) ++ codes " " ++ hexadecimal (part_word f b 0) ++ codes " " ++ hexadecimal (part_word f b (words_of f b - 1))

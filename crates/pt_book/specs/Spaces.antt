-- A space of the slow book: its book, and the number of levels that it starts with.
use Rattle.std.specs.Prelude.{ℕ, ◌≤◌, IsTrue}
use Rattle.pt_model.specs.declared.block.Block.{Block}
use Rattle.pt_model.specs.declared.reply.UnmapAnswer.{UnmapAnswer}
use Rattle.pt_model.specs.declared.reply.UnmapAnswer.TheVariants.{Cuts}
use Rattle.pt_model.specs.declared.reply.ForkAnswer.{ForkAnswer}
use Rattle.pt_model.specs.declared.reply.ForkAnswer.TheVariants as forking
use Rattle.pt_model.specs.Layout.{Layout, IsLegalBlock}
use Rattle.pt_model.specs.Book.{Book}

pub record Space : Type 0 where
  pub levels : ℕ
  pub book : Book

-- the space with another book
abbrev pub with_book : Space → Book → Space
with_book space book = record { levels = space.levels; book = book }

-- a space of the format may start with so many levels
pub record IsStart (f : Layout) (levels : ℕ) : Type 0 where
  pub low : f.start ≤ levels
  pub high : levels ≤ f.levels

-- the block that an answer names is one of the format's
abbrev pub CutsLegalBlock : Layout → UnmapAnswer → Type 0
CutsLegalBlock f (Cuts block) = IsLegalBlock f block
CutsLegalBlock f other = Unit {0}

-- the block that the answer to a fork names is one of the format's
abbrev pub CrossesLegalBlock : Layout → ForkAnswer → Type 0
CrossesLegalBlock f (forking.Cuts block) = IsLegalBlock f block
CrossesLegalBlock f other = Unit {0}

-- the format states what a block permits
abbrev pub IsStated : Layout → Block → Type 0
IsStated f b = IsTrue (f.states b.prot)

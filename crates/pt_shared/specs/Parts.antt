-- Where a range of a shared space stands between calls.
use Rattle.std.specs.Prelude.{◌≡◌, ℕ, ◌≤◌, length, IsTrue, Result, Ok, Err}
use Rattle.pt_model.specs.declared.reply.ForkAnswer.{ForkAnswer}
use Rattle.pt_model.specs.declared.reply.ForkAnswer.TheVariants as forking
use Rattle.pt_model.specs.Layout.{Layout}
use Rattle.pt_model.specs.Book.{IsLawful}
use Rattle.pt_space.specs.Standing.{SpaceId, Standing}
use Rattle.pt_walk.specs.declared.cut.CutRefused.{CutRefused}
use Rattle.pt_walk.specs.declared.cut.CutRefused.TheVariants as refused
use Rattle.pt_reply.specs.Running.{IsReady, book_in, machine_in}
use Rattle.pt_reply.specs.Telling.{has_small_blocks}
use Rattle.pt_beside.specs.Places.{Place}

abbrev pub place_of : Layout → Standing → Place
place_of f s = record { space = s.space; machine = machine_in f s.view; book = book_in s.view; purse = length s.view.purse }

-- it is at rest in its space, and has the frames and the levels of it
pub record IsShared (f : Layout) (space : SpaceId) (s : Standing) (frames levels : ℕ) : Type 0 where
  pub space_is : s.space ≡ space
  pub ready : IsReady f s.view
  pub small : IsTrue (has_small_blocks f)
  pub lawful : IsLawful f s.view.levels (book_in s.view)
  pub frames_are : frames ≡ s.view.frames
  pub levels_are : levels ≡ s.view.levels
  pub low : f.start ≤ levels
  pub high : levels ≤ f.levels

-- it is at rest in the same space, as the same machine, with the same book and as many frames
pub record IsUnchanged (f : Layout) (old new : Standing) : Type 0 where
  pub space : new.space ≡ old.space
  pub ready : IsReady f new.view
  pub place : place_of f new ≡ place_of f old

-- the answer to a fork, by what was found at its cut
abbrev pub fork_said : Result (Unit {0}) CutRefused → ForkAnswer
fork_said (Ok done) = forking.Forked
fork_said (Err refused.Misaligned) = forking.Misaligned
fork_said (Err refused.OutsideLease) = forking.Outside
fork_said (Err (refused.CutsEntry block)) = forking.Cuts block

-- What threads are handed of a space, and hand back.
use Rattle.std.specs.Prelude.{◌≡◌, ◌<◌, ◌^◌}
use Rattle.pt_model.specs.Layout.{Layout}
use Rattle.pt_view.specs.Views.{Rests}
use Rattle.pt_space.specs.Standing.{SpaceId, Standing}
use Rattle.space_cases.specs.declared.racer.Goal.{Goal}
use Rattle.space_cases.specs.Racing.{IsIdle, Moves}
use Rattle.space_cases.specs.Stages.{MayGoTo}

-- a range of this space, at rest
pub record IsHanded (f : Layout) (space : SpaceId) (ticket : Standing) : Type 0 where
  pub space_is : ticket.space ≡ space
  pub rest : Rests f ticket.view

-- the same range, at rest again
pub record IsHandedBack (f : Layout) (old new : Standing) : Type 0 where
  pub moves : Moves old new
  pub rest : Rests f new.view

-- a range of this space, at rest with no block, that begins under entry 0 of every table and may go to a goal
pub record IsEntered (f : Layout) (space : SpaceId) (ticket : Standing) (goal : Goal) : Type 0 where
  pub space_is : ticket.space ≡ space
  pub idle : IsIdle ticket.view
  pub near : ticket.view.first < 2 ^ f.index
  pub may : MayGoTo f goal ticket.view

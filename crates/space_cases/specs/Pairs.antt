-- Racers whose spans are side by side.
use Rattle.std.specs.Prelude.{◌≡◌, ℕ, ◌+◌, ◌<◌, ◌^◌}
use Rattle.pt_model.specs.Layout.{Layout, input_pages}
use Rattle.pt_view.specs.declared.view.View.{View}
use Rattle.pt_space.specs.Standing.{SpaceId, Standing}

-- of one space, side by side, and together the whole space
pub record IsPair (f : Layout) (left right : Standing) : Type 0 where
  pub space : right.space ≡ left.space
  pub beside : right.view.first ≡ left.view.first + left.view.count
  pub whole : left.view.count + right.view.count ≡ input_pages f

-- of one space, one after the other, and together the whole space
pub record IsTrio (f : Layout) (left middle right : Standing) : Type 0 where
  pub space : (middle.space ≡ left.space) × (right.space ≡ left.space)
  pub beside : middle.view.first ≡ left.view.first + left.view.count
  pub next : right.view.first ≡ middle.view.first + middle.view.count
  pub whole : left.view.count + middle.view.count + right.view.count ≡ input_pages f

-- Ranges of pages that no block meets.
use Rattle.std.specs.Prelude.{◌≡◌, ℕ, ◌<◌, None}
use Rattle.pt_model.specs.declared.position.Position.{Position}
use Rattle.pt_model.specs.Layout.{Layout}
use Rattle.pt_model.specs.Sets.{IsAmong, places}
use Rattle.pt_view.specs.declared.view.View.{View}
use Rattle.pt_walk.specs.Walks.{IsFree, OwnsAll}
use Rattle.pt_sweep.specs.Sweeps.{IsBookTable}

-- no piece has a page of a range, and the book's tables are each there once
pub record IsEmptyRange (f : Layout) (v : View) (first end levels : ℕ) : Type 0 where
  pub owns : OwnsAll f v
  pub free : IsFree f v first end
  pub tables : (q : Position) → IsAmong v.tables q → IsBookTable f v q
  pub once : (q : Position) → places q v.tables < 2
  pub levels_are : levels ≡ v.levels
  pub none : v.prepared ≡ None

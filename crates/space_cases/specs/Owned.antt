-- A table at an entry of the root's table whose pages are all a lease's own.
use Rattle.std.specs.Prelude.{◌≡◌, ℕ, ◌+◌, ◌*◌, ◌^◌, ◌<◌, ◌≤◌, [], ◌∷◌}
use Rattle.pt_model.specs.Layout.{Layout, pages_of_entry}
use Rattle.pt_model.specs.Tables.{child_at, spine_position}
use Rattle.pt_view.specs.declared.view.View.{View}

-- an entry of the root's table of this level, but not its first one; all pages under it are in the span
pub record IsOwnEntry (f : Layout) (level number : ℕ) (v : View) : Type 0 where
  pub high : 0 < level
  pub some : 0 < number
  pub within : number < 2 ^ f.index
  pub low : v.first ≤ number * pages_of_entry f level
  pub end : number * pages_of_entry f level + pages_of_entry f level ≤ v.first + v.count

-- the one table of the view is the one at that entry
pub record HasTableAt (f : Layout) (level number : ℕ) (v : View) : Type 0 where
  pub own : IsOwnEntry f level number v
  pub tables : v.tables ≡ child_at f (spine_position level) number ∷ []

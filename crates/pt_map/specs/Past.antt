-- The tables that a map needs past those under the root.
use Rattle.std.specs.Prelude.{ℕ, nat_lt, Bool, List, filter}
use Rattle.pt_model.specs.declared.position.Position.{Position}
use Rattle.pt_model.specs.Layout.{Layout, pages_of_table}
use Rattle.pt_model.specs.Tables.{all_needed, end_of_table}
use Rattle.pt_tile.specs.declared.extent.Extent.{Extent}
use Rattle.pt_tile.specs.Extents.{tiles}

-- whether a table ends past the pages under the table of a level at page 0
abbrev pub reaches_past : Layout → (root : ℕ) → Position → Bool
reaches_past f root p = nat_lt (pages_of_table f root) (end_of_table f p)

-- those that an extent needs in a tree that started with so many levels and whose root is of this level
abbrev pub past_root : Layout → (levels root : ℕ) → Extent → List Position
past_root f levels root x = filter (reaches_past f root) (all_needed f levels (tiles f x))

-- Which frames are linked, and which positions are those of the tree.
use Rattle.std.specs.Prelude.{◌≡◌, ℕ, ◌<◌, nat_le, nat_lt, ◌&&◌, ◌||◌, Bool, List, IsTrue}
use Rattle.pt_model.specs.declared.position.Position.{Position}
use Rattle.pt_model.specs.Tables.{is_spine}
use Rattle.pt_model.specs.Words.{tag, placed_at, root_level}
use Rattle.pt_view.specs.declared.view.View.{View}
use Rattle.pt_rule.specs.Totals.{total, prepares, has_table}
use Rattle.pt_rule.specs.Tags.{is_placed}

-- a frame is linked: it is placed, and no view prepares it
pub record IsLinked (n : ℕ) (words : List ℕ) (views : List View) (frame : ℕ) : Type 0 where
  pub within : frame < n
  pub placed : IsTrue (is_placed (tag words frame))
  pub unprepared : total (prepares frame) views ≡ 0

-- it is linked at this position
pub record IsLinkedAt (n : ℕ) (words : List ℕ) (views : List View) (frame : ℕ) (p : Position) : Type 0 where
  pub is_linked : IsLinked n words views frame
  pub at : placed_at (tag words frame) ≡ p

-- the positions of the tree: the spine up to the root's level, and the tables of the views.
-- `l` is the number of levels that the space started with.
abbrev pub is_in_tree : (l : ℕ) → (words : List ℕ) → List View → Position → Bool
is_in_tree l words views p =
    (is_spine l p && nat_le p.level (root_level words)) || nat_lt 0 (total (has_table p) views)

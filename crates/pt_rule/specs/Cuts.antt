-- A view cut in two at a page, and two views as one.
use Rattle.std.specs.Prelude.{◌≡◌, ◌⊎◌, ℕ, ◌+◌, ◌-◌, ◌<◌, ◌≤◌, nat_lt, ◌&&◌, ◌||◌, not, Bool, List, [], ◌∷◌, ◌++◌, filter, max, length, take, drop, Option, None}
use Rattle.pt_model.specs.declared.block.Block.{Block}
use Rattle.pt_model.specs.declared.position.Position.{Position}
use Rattle.pt_model.specs.Layout.{Layout, end_of}
use Rattle.pt_model.specs.Tables.{add_positions, end_of_table, is_spine}
use Rattle.pt_view.specs.declared.view.View.{View}
use Rattle.pt_view.specs.declared.view.Piece.{Piece}
use Rattle.pt_view.specs.Pieces.{IsOneOf, first_of}
use Rattle.pt_view.specs.Views.{IsAtRest}
use Rattle.pt_rule.specs.Tags.{first_or}

-- the end mark of a purse before another's first frame
abbrev pub seam_of : List ℕ → Option ℕ → Option ℕ
seam_of [] end = None
seam_of (x ∷ xs) end = end

-- a table meets pages, and a position is of the spine or meets them
abbrev pub table_in : Layout → (first last : ℕ) → Position → Bool
table_in f first last p = nat_lt p.base last && nat_lt first (end_of_table f p)

abbrev pub is_near : Layout → (levels first last : ℕ) → Position → Bool
is_near f levels first last p = is_spine levels p || table_in f first last p

-- the part before page `at`, with the first `kept` frames of the purse
abbrev pub left_part : Layout → (at kept : ℕ) → View → View
left_part f at kept v = record v {
  count = at - v.first;
  pieces = filter (λ x. nat_lt (first_of f x) at) v.pieces;
  tables = filter (table_in f v.first at) v.tables;
  purse = take kept v.purse;
  end = seam_of (take kept v.purse) (first_or v.end (drop kept v.purse));
  path = [];
  busy = [];
  known = filter (is_near f v.levels v.first at) v.known;
}

-- the part from page `at` on
abbrev pub right_part : Layout → (at kept : ℕ) → View → View
right_part f at kept v = record v {
  first = at;
  count = v.first + v.count - at;
  pieces = filter (λ x. not (nat_lt (first_of f x) at)) v.pieces;
  tables = filter (table_in f at (v.first + v.count)) v.tables;
  purse = drop kept v.purse;
  path = [];
  busy = [];
  known = filter (is_near f v.levels at (v.first + v.count)) v.known;
  taken = [];
  absent = [];
  stores = [];
}

abbrev pub marked : Option ℕ → View → View
marked end v = record v { end = end }

-- one view of two spans side by side
abbrev pub joined : View → View → View
joined v w = record v {
  count = v.count + w.count;
  pieces = v.pieces ++ w.pieces;
  tables = add_positions v.tables w.tables;
  top = max v.top w.top;
  purse = v.purse ++ w.purse;
  end = w.end;
  path = [];
  busy = [];
  known = v.known ++ w.known;
}

-- no block lies on both sides of a page
abbrev pub CutsNone : (at : ℕ) → List Piece → Type 0
CutsNone at pieces = (x : Piece) → IsOneOf pieces x → (end_of x.block ≤ at) ⊎ (at ≤ x.block.first)

-- when a view may be cut
pub record MaySplit (f : Layout) (at kept : ℕ) (v : View) : Type 0 where
  pub blocks : List Block
  pub rest : IsAtRest f v blocks
  pub cuts_none : CutsNone at v.pieces
  pub low : v.first < at
  pub high : at < v.first + v.count
  pub frames : kept ≤ length v.purse

-- when two views may be one: both at rest, but for the left one's end mark, which is the right one's first frame
pub record MayJoin (f : Layout) (v w : View) : Type 0 where
  pub left : List Block
  pub right : List Block
  pub left_rest : IsAtRest f (marked None v) left
  pub right_rest : IsAtRest f w right
  pub seam : v.end ≡ seam_of v.purse (first_or None w.purse)
  pub adjacent : w.first ≡ v.first + v.count

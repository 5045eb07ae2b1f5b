-- Table positions, and those that blocks need. They are this project's own. `levels` is the number of levels that a space starts with.
use Rattle.std.specs.Prelude.{◌≡◌, ℕ, ◌+◌, ◌-◌, ◌*◌, ◌/◌, ◌%◌, ◌<◌, nat_le, nat_lt, ◌&&◌, ◌||◌, ◌==◌, Bool, true, false, List, [], ◌∷◌, ◌++◌, map, fold, max, count_by}
use Rattle.std.specs.List.{range_with_len}
use Rattle.pt_model.specs.declared.block.Block.{Block}
use Rattle.pt_model.specs.Layout.{Layout, end_of, level_of_size, pages_of_entry, pages_of_table, input_pages}
-- a table's place: its level, 0 being the lowest, and the first page under it
use Rattle.pt_model.specs.declared.position.Position.{Position}

pub record IsPosition (f : Layout) (p : Position) : Type 0 where
  pub a_level : p.level < f.levels
  pub a_page : p.base < input_pages f
  pub aligned : p.base % pages_of_table f p.level ≡ 0

-- the page after the last one under a table
abbrev pub end_of_table : Layout → Position → ℕ
end_of_table f p = p.base + pages_of_table f p.level

-- the position of a level under which a page lies
abbrev pub position_over : Layout → ℕ → ℕ → Position
position_over f page level =
    record { level = level; base = page / pages_of_table f level * pages_of_table f level }

abbrev pub parent_of : Layout → Position → Position
parent_of f p = position_over f p.base (p.level + 1)

-- the position under entry `number` of the table at p
abbrev pub child_at : Layout → Position → ℕ → Position
child_at f p number = record { level = p.level - 1; base = p.base + number * pages_of_entry f p.level }

-- the starting top, at which a space starts
abbrev pub starting_top : (levels : ℕ) → ℕ
starting_top levels = levels - 1

-- the spine: the positions over page 0, at the levels from the starting top on
abbrev pub spine_position : ℕ → Position
spine_position level = record { level = level; base = 0 }

abbrev pub is_spine : (levels : ℕ) → Position → Bool
is_spine levels p = nat_le (starting_top levels) p.level && (p.base == 0)

-- the numbers from `low` to `high`, with both
abbrev pub levels_between : ℕ → ℕ → List ℕ
levels_between low high = range_with_len low (high + 1 - low)

-- the least top, from the starting one on, whose table at page 0 has all pages before page `last`, which is at most
-- the end of the space: the levels below it are those whose table at page 0 ends before. Past the end of the space it
-- is `f.levels`, which is no level, and nobody asks there
abbrev pub least_top : Layout → (levels last : ℕ) → ℕ
least_top f levels last =
    max (starting_top levels) (count_by (λ t. nat_lt (pages_of_table f t) last) (range_with_len 0 f.levels))

-- the positions that a block needs: the tables above it, and the spine
abbrev pub needed : Layout → (levels : ℕ) → Block → List Position
needed f levels b =
    let top = least_top f levels (end_of b) in
    map (position_over f b.first) (levels_between (level_of_size f b.log2) top)
    ++ map spine_position (levels_between (starting_top levels) top)

-- the order of positions: by level, and then by base
abbrev pub is_before : Position → Position → Bool
is_before p q = nat_lt p.level q.level || ((p.level == q.level) && nat_lt p.base q.base)

abbrev pub is_same : Position → Position → Bool
is_same p q = (p.level == q.level) && (p.base == q.base)

-- a position put into a list in order, once
abbrev pub add_position : List Position → Position → List Position
add_position [] p = p ∷ []
add_position (q ∷ qs) p =
    elim (is_before q p) [
      | true ↦ q ∷ add_position qs p
      | false ↦ elim (is_before p q) [ true ↦ p ∷ (q ∷ qs) | false ↦ q ∷ qs ]
    ]

abbrev pub add_positions : List Position → List Position → List Position
add_positions ps qs = fold add_position ps qs

-- what all of the blocks need, in order and each once
abbrev pub all_needed : Layout → (levels : ℕ) → List Block → List Position
all_needed f levels bs = fold (λ ps b. add_positions ps (needed f levels b)) [] bs

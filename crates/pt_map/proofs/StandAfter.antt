-- Where the way to an extent stands after a step.
use Rattle.std.proofs.Common.{◌≡◌, ℕ, ◌+◌, ◌-◌, ◌*◌, ◌/◌, ◌<◌, ◌≤◌, [], ◌∷◌, ◌++◌, length, refl, ap, sym, ◌∙◌, subst, arith, length-append}
use Rattle.std.specs.Prelude.{Some}
use Rattle.pt_model.specs.declared.position.Position.{Position}
use Rattle.pt_model.specs.Layout.{Layout}
use Rattle.pt_model.specs.Sets.{IsAmong}
use Rattle.pt_model.specs.Tables.{end_of_table, least_top, position_over, spine_position, starting_top}
use Rattle.pt_model.proofs.Tops.{top_mono}
use Rattle.pt_format.specs.Laws.{IsLayout}
use Rattle.pt_view.specs.declared.view.View.{View}
use Rattle.pt_view.specs.declared.view.Node.{Node}
use Rattle.pt_view.specs.Views.{SameRange}
use Rattle.pt_view.specs.Calls.{lowest}
use Rattle.pt_walk.specs.Walks.{IsWayDown}
use Rattle.pt_view.proofs.Paths.{lowest_snoc}
use Rattle.pt_model.proofs.Quotients.{entry_is_table}
use Rattle.pt_tile.specs.declared.extent.Extent.{Extent}
use Rattle.pt_tile.specs.Extents.{IsExtent, first_size}
use Rattle.pt_tile.proofs.FirstParts.{first_level}
use Rattle.pt_map.specs.Stands.{IsEntryExtent, IsExtentAt, StandsAt}
use Rattle.pt_map.proofs.NeededTables.{same_table}
use Rattle.pt_map.proofs.PathTables.{way_moves, way_on}
use Rattle.pt_view.specs.Loads.{ByLoads}

-- a step that keeps the range and the prepared frame, and forgets no linked position of the spine
pub record Keeps (v w : View) : Type 0 where
  pub range : SameRange v w
  pub prepared : w.prepared ≡ v.prepared
  pub known : (l : ℕ) → starting_top v.levels ≤ l → IsAmong v.known (spine_position l) → IsAmong w.known (spine_position l)

-- loads keep what was met
pub loads_keep : {tells : Type 0} {v w : View} → ByLoads tells v w → Keeps v w
loads_keep loads = record { range = loads.range; prepared = loads.prepared; known = λ l low h. loads.known (spine_position l) h }

pub keeps_here : (v : View) → Keeps v v
keeps_here v = record { range = record { frames = refl; levels = refl; first = refl; count = refl }; prepared = refl; known = λ l low h. h }

-- The path stays, and the way goes on to an extent that is inside the one before.
module _ {f : Layout} (good : IsLayout f) {v w : View} {x y : Extent} {level : ℕ} (at : IsExtentAt f v x level) (part : IsExtent f y) (from_it : x.first ≤ y.first) (to_it : y.end ≤ x.end)
    (low : first_size f y < f.index * (level + 1)) (keeps : Keeps v w) (path : w.path ≡ v.path) where
  over_it : (high : ℕ) → level ≤ high → position_over f y.first high ≡ position_over f x.first high
  over_it high above = same_table good at.extent level at.range.under y.first high from_it (let some = part.some in omega arith) above

  pub at_moves : IsExtentAt f w y level
  at_moves =
      let r = at.range in
      let range = keeps.range in
      let first = range.first in let count = range.count in let levels = range.levels in
      let over = over_it level (omega arith) in
      let under = r.under in let space = r.in_space in let from = r.from in let to = r.to in
      record {
        extent = part;
        range = record {
          below = r.below;
          over = record { frame = r.over.frame; is = ap lowest path ∙ r.over.is ∙ ap (λ (p : Position). Some (record { frame = r.over.frame; position = p })) (sym over) };
          some = part.some;
          under = subst (λ (p : Position). y.end ≤ end_of_table f p) (sym over) (omega arith);
          in_space = omega arith;
          from = omega arith;
          to = omega arith;
        };
        low = low;
        spine = λ l high below. keeps.known l (omega arith) (at.spine l (omega arith) below);
      }

-- the same, on the way from the root
pub stands_moves : {f : Layout} (good : IsLayout f) {v w : View} {x y : Extent} {level : ℕ} (s : StandsAt f v x level) → IsExtent f y → x.first ≤ y.first → y.end ≤ x.end →
    first_size f y < f.index * (level + 1) → Keeps v w → w.path ≡ v.path → w.top < length v.path + level → StandsAt f w y level
stands_moves {f = f} good {v = v} {w = w} {x = x} {y = y} {level = level} s part from_it to_it low keeps path high =
    let long : length w.path ≡ length v.path = ap length path in
    let below = s.below in
    record {
      at = at_moves good s.at part from_it to_it low keeps path;
      way = subst (λ ns. IsWayDown f y.first (length ns + level) ns) (sym path)
          (way_moves f x.first y.first (length v.path + level) level v.path (over_it good s.at part from_it to_it low keeps path) (let e : length v.path + level ≡ length v.path + level = omega arith in e) s.way);
      high = omega arith;
      below = omega arith;
      none = keeps.prepared ∙ s.none;
      reach = (let reach = s.reach in let less = top_mono f v.levels y.end x.end to_it in
          let e : least_top f w.levels y.end ≡ least_top f v.levels y.end = ap (λ (l : ℕ). least_top f l y.end) keeps.range.levels in omega arith);
    }

-- The path goes on into the table under one entry, under which the extent lies.
module _ {f : Layout} (good : IsLayout f) {v w : View} {x : Extent} {level : ℕ} (at : IsExtentAt f v x level) (entry : IsEntryExtent f x level) (keeps : Keeps v w) where
  pub level_some : 0 < level
  level_some = let h = first_level good at.extent level entry.lower in omega arith

  under_next : x.end ≤ end_of_table f (position_over f x.first (level - 1))
  under_next = let one = subst (λ (t : ℕ). x.end ≤ (x.first / t + 1) * t) (entry_is_table f level level_some) entry.one in omega arith

  pub lower_size : first_size f x < f.index * (level - 1 + 1)
  lower_size = let some = level_some in let e : level ≡ level - 1 + 1 = omega arith in subst (λ (k : ℕ). first_size f x < f.index * k) e entry.lower

  module _ (node : Node) (is : node.position ≡ position_over f x.first (level - 1)) (path : w.path ≡ v.path ++ node ∷ []) where
    pub at_inside : IsExtentAt f w x (level - 1)
    at_inside =
        let r = at.range in
        let range = keeps.range in
        let some = level_some in
        let first = range.first in let count = range.count in let levels = range.levels in let below = r.below in let from = r.from in let to = r.to in
        record {
          extent = at.extent;
          range = record {
            below = omega arith;
            over = record { frame = node.frame; is = ap lowest path ∙ lowest_snoc v.path node ∙ ap (λ (p : Position). Some (record { frame = node.frame; position = p })) is };
            some = r.some;
            under = under_next;
            in_space = r.in_space;
            from = omega arith;
            to = omega arith;
          };
          low = lower_size;
          spine = λ l high low. keeps.known l (omega arith) (at.spine l (omega arith) (omega arith));
        }

-- the same, on the way from the root
pub stands_inside : {f : Layout} (good : IsLayout f) {v w : View} {x : Extent} {level : ℕ} (s : StandsAt f v x level) → IsEntryExtent f x level → Keeps v w →
    (node : Node) → node.position ≡ position_over f x.first (level - 1) → w.path ≡ v.path ++ node ∷ [] → w.top < length v.path + level → StandsAt f w x (level - 1)
stands_inside {f = f} good {v = v} {w = w} {x = x} {level = level} s entry keeps node is path high =
    let some = level_some good s.at entry keeps in
    let e : length w.path ≡ length (v.path ++ node ∷ []) = ap length path in
    let sum = length-append v.path (node ∷ []) in
    let below = s.below in
    let long : length v.path + level ≡ length (v.path ++ node ∷ []) + (level - 1) = omega arith in
    record {
      at = at_inside good s.at entry keeps node is path;
      way = subst (λ ns. IsWayDown f x.first (length ns + (level - 1)) ns) (sym path) (subst (λ (n : ℕ). IsWayDown f x.first n (v.path ++ node ∷ [])) long
          (way_on f x.first (length v.path + level) level v.path node (let e : length v.path + level ≡ length v.path + level = omega arith in e) is s.way));
      high = omega arith;
      below = omega arith;
      none = keeps.prepared ∙ s.none;
      reach = (let reach = s.reach in let same : least_top f w.levels x.end ≡ least_top f v.levels x.end = ap (λ (l : ℕ). least_top f l x.end) keeps.range.levels in omega arith);
    }

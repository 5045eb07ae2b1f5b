-- The way of a map from the root down to the lowest linked table over its extent.
use Rattle.std.proofs.Common.{◌≡◌, ℕ, ◌+◌, ◌-◌, ◌*◌, ◌/◌, ◌%◌, ◌<◌, ◌≤◌, List, [], ◌∷◌, ◌++◌, true, false, inl, inr, refl, ap, sym, subst, ◌∙◌, arith, length-append}
use Rattle.std.specs.Prelude.{IsTrue, Some, ◌==◌, nat_le, length}
use Rattle.std.proofs.lemmas.Bool.{and_from, cases_lt, eq-eqb, le-leb}
use Rattle.std.proofs.lemmas.List.Elements.{All-contains}
use Rattle.std.proofs.lemmas.Nat.{mod_below, mul-le}
use Rattle.pt_model.specs.declared.block.Block.{Block}
use Rattle.pt_model.specs.declared.position.Position.{Position}
use Rattle.pt_model.specs.Layout.{Layout, input_pages, pages_of_table}
use Rattle.pt_model.specs.Book.{IsLawful}
use Rattle.pt_model.specs.Sets.{IsAmong, places}
use Rattle.pt_model.specs.Tables.{IsPosition, is_spine, least_top, position_over, spine_position, starting_top}
use Rattle.pt_model.proofs.Tops.{reaches_top, table_mono}
use Rattle.pt_model.proofs.Positions.{sorted_once}
use Rattle.pt_format.specs.Laws.{IsLayout}
use Rattle.pt_tile.specs.declared.extent.Extent.{Extent}
use Rattle.pt_tile.specs.Extents.{first_size}
use Rattle.pt_tile.proofs.FirstSizes.{size_greatest}
use Rattle.pt_tile.proofs.Levels.{over_first}
use Rattle.pt_view.specs.declared.view.View.{View}
use Rattle.pt_view.specs.declared.view.Node.{Node}
use Rattle.pt_view.specs.Calls.{Rooted, lowest}
use Rattle.pt_view.specs.Views.{IsAtRest, book_of}
use Rattle.pt_walk.specs.Walks.{IsClear, IsOverRange, IsWayDown, OwnsAll, OwnsOver, WentDown}
use Rattle.pt_view.specs.Loads.{ByLoads}
use Rattle.pt_view.proofs.Loads.{loads_on, root_loads}
use Rattle.pt_walk.proofs.Books.{owns_all}
use Rattle.pt_walk.proofs.Descent.{owns_on}
use Rattle.pt_model.proofs.Quotients.{root_over}
use Rattle.pt_walk.proofs.Ranges.{clear_root}
use Rattle.pt_map.specs.Requests.{MayMap, MayMapBelow}
use Rattle.pt_map.specs.Stands.{StandsAt}
use Rattle.pt_map.proofs.NeededTables.{space_in_table}
use Rattle.pt_map.proofs.MapResults.{Standing}
use Rattle.pt_map.proofs.TablesAfter.{member_at, sorted_tables}

-- a way down, and a further one from its end
way_on : (f : Layout) (page level : ℕ) (xs ys : List Node) → IsWayDown f page level xs → IsWayDown f page (level - length xs) ys → IsWayDown f page level (xs ++ ys)
way_on f page level [] ys a b = subst (λ (n : ℕ). IsWayDown f page n ys) (let e : level - 0 ≡ level = omega arith in e) b
way_on f page level (x ∷ xs) ys a b = (a.0, way_on f page (level - 1) xs ys a.1 (subst (λ (n : ℕ). IsWayDown f page n ys) (let e : level - length (x ∷ xs) ≡ level - 1 - length xs = omega arith in e) b))

-- the first block stands in a table of a level, if it is so high
low_at : (index k level : ℕ) → 0 < index → k / index ≤ level → k < index * (level + 1)
low_at index k level some low =
    let m = mod_below k index some in
    let h = mul-le (k / index) index level index low (omega arith) in
    let c : level * index + index ≡ index * (level + 1) = omega arith in omega arith

-- An extent of a holder at rest may be mapped, and the root was loaded, which reaches over the extent.
pub record Begun (f : Layout) (tells alone : Type 0) (v u : View) (x : Extent) (root : ℕ) : Type 0 where
  pub may : MayMap f v x
  pub reach : x.end ≤ pages_of_table f root
  pub rooted : Rooted f tells alone v root u

module _ {f : Layout} (good : IsLayout f) {tells alone : Type 0} {v u : View} {x : Extent} {root : ℕ} (b : Begun f tells alone v u x root) where
  lawful_here : IsLawful f v.levels (book_of v b.may.rest.0)
  lawful_here = b.may.lawful b.may.rest.0 b.may.rest.1

  -- the tables of the book are at multiples of their pages
  aligned_here : (p : Position) → IsAmong v.tables p → p.base % pages_of_table f p.level ≡ 0
  aligned_here p m = (All-contains (IsPosition f) v.tables p lawful_here.positions (member_at v.tables p m)).aligned

  few_levels : v.levels ≤ f.levels
  few_levels = let low = lawful_here.top_least in let high = lawful_here.top_below in omega arith

  owns_at_rest : OwnsAll f v
  owns_at_rest = owns_all f good v b.may.rest.0 b.may.levels b.may.rest.1 lawful_here

  root_high : starting_top v.levels ≤ root
  root_high = let reach = b.rooted.reaches in let low = lawful_here.top_least in omega arith

  root_reaches : least_top f v.levels x.end ≤ root
  root_reaches = reaches_top f v.levels x.end root root_high b.reach

  -- a lone holder's top is the root's level
  pub top_reaches : alone → least_top f v.levels x.end ≤ v.top
  top_reaches a = let exact = b.rooted.exact a in let reach = root_reaches in omega arith

  first_under : x.first < pages_of_table f root
  first_under = let some = b.may.inside.extent.some in let reach = b.reach in omega arith

  spine_over : spine_position root ≡ position_over f x.first root
  spine_over = root_over f x.first root first_under

  pub range_root : IsOverRange f u x.first x.end root
  range_root =
      let base : 0 ≡ (position_over f x.first root).base = ap (λ (p : Position). p.base) spine_over in
      let r = b.rooted in let wide = b.reach in
      let first = r.range.first in let count = r.range.count in
      let extent = b.may.inside.extent in let input = extent.in_input in let from = b.may.inside.from in let to = b.may.inside.to in
      record {
        below = r.legal;
        over = record { frame = r.path.0; is = ap lowest r.path.1 ∙ ap (λ (p : Position). Some (record { frame = r.path.0; position = p })) spine_over };
        some = extent.some;
        under = omega arith;
        in_space = extent.in_input;
        from = omega arith;
        to = omega arith;
      }

  pub low_size : first_size f x / f.index ≤ root
  low_size =
      let size = good.sizes_low (first_size f x) (size_greatest good b.may.inside.extent).legal.a_size in
      let r = root_high in let start = b.may.levels in omega arith

  pub owns_root : OwnsAll f u
  owns_root = owns_on f b.rooted.range b.rooted.book owns_at_rest

  pub clear_here : IsClear f u x.first x.end root
  clear_here = clear_root f u x.first x.end root owns_root (let a = b.rooted.reaches in let s = b.rooted.book.top in omega arith)

-- The way went down to the lowest linked table over the extent.
pub record Reached (f : Layout) (tells alone : Type 0) (v u d : View) (x : Extent) (root level : ℕ) : Type 0 where
  pub begun : Begun f tells alone v u x root
  pub walked : ByLoads tells u d
  pub range : IsOverRange f d x.first x.end level
  pub down : WentDown f u d x.first root level
  pub low : first_size f x / f.index ≤ level
  pub clear : IsClear f d x.first x.end level

module _ {f : Layout} (good : IsLayout f) {tells alone : Type 0} {v u d : View} {x : Extent} {root level : ℕ} (h : Reached f tells alone v u d x root level) where
  pub to_table : ByLoads tells v d
  to_table = loads_on (root_loads h.begun.rooted) h.walked

  pub path_long : length d.path ≡ root - level + 1
  path_long =
      let e : length d.path ≡ length (u.path ++ h.down.nodes) = ap length h.down.path in
      let one : length u.path ≡ 1 = ap length h.begun.rooted.path.1 in
      let sum = length-append u.path h.down.nodes in
      let many = h.down.so_many in omega arith

  way_down : IsWayDown f x.first (root + 1) d.path
  way_down =
      let r = h.begun.rooted in
      let one : length u.path ≡ 1 = ap length r.path.1 in
      let same : root + 1 - 1 ≡ root = omega arith in
      let first : IsWayDown f x.first (root + 1) (record { frame = r.path.0; position = spine_position root } ∷ []) =
      (spine_over good h.begun ∙ ap (position_over f x.first) (sym same), tt) in
      let next : root ≡ root + 1 - length u.path = omega arith in
      subst (IsWayDown f x.first (root + 1)) (sym h.down.path)
      (way_on f x.first (root + 1) u.path h.down.nodes (subst (IsWayDown f x.first (root + 1)) (sym r.path.1) first) (subst (λ (n : ℕ). IsWayDown f x.first n h.down.nodes) next h.down.way))

  stands : StandsAt f d x level
  stands =
      let b = h.begun in
      let some : 0 < f.index = omega (arith, good.index_is, good.granule_low) in
      let w = to_table in let levels = w.range.levels in let same = w.book.top in
      let long = path_long in let many = h.down.so_many in let under = h.range.below in let reach = b.rooted.reaches in let legal = b.rooted.legal in
      let so_long : root + 1 ≡ length d.path + level = omega arith in
      let top = root_reaches good b in
      record {
        at = record {
          extent = b.may.inside.extent;
          range = h.range;
          low = low_at f.index (first_size f x) level some h.low;
          spine = λ l high low. h.walked.known (spine_position l) ((b.rooted.known (spine_position l)).1 (inl (spine_known l (omega arith), (let many = h.down.so_many in omega arith))));
        };
        way = subst (λ (n : ℕ). IsWayDown f x.first n d.path) so_long way_down;
        high = omega arith;
        below = omega arith;
        none = w.prepared ∙ b.may.rest.1.prepared;
        reach = (let e : least_top f d.levels x.end ≡ least_top f v.levels x.end = ap (λ (l : ℕ). least_top f l x.end) levels in omega arith);
      }
    where
      spine_known : (l : ℕ) → starting_top v.levels ≤ l → is_spine v.levels (spine_position l) ≡ true
      spine_known l high = and_from (nat_le (starting_top v.levels) l) (0 == 0) (le-leb (starting_top v.levels) l high) (eq-eqb 0 0 refl)

  pub may_map : MayMapBelow f d x level
  may_map =
      let b = h.begun in
      let w = to_table in
      let lawful = lawful_here good b in
      record {
        stands = stands;
        owns = owns_on f w.range w.book (owns_at_rest good b);
        clear = h.clear;
        levels = (let l = b.may.levels in let e = w.range.levels in omega arith);
        tables = λ p m.
            let there : IsAmong v.tables p = subst (λ (ps : List Position). IsAmong ps p) w.book.tables m in
            record {
              off_spine = subst (λ (l : ℕ). is_spine l p ≡ false) (sym w.range.levels) (All-contains (λ q. is_spine v.levels q ≡ false) v.tables p lawful.off_spine (member_at v.tables p there));
              aligned = aligned_here good b p there;
            };
        once = λ p.
            let s : places p v.tables ≤ 1 = sorted_once v.tables (sorted_tables v.tables lawful.tables_in_order) p in
            let e : places p d.tables ≡ places p v.tables = ap (places p) w.book.tables in omega arith;
      }

  pub standing : (blocks : List Block) → IsAtRest f v blocks → Standing f tells v d blocks x level
  standing blocks rest =
      let b = h.begun in
      let lawful = b.may.lawful blocks rest in
      record {
        rest = rest;
        lawful = lawful;
        owns = owns_at_rest good b;
        sorted = sorted_tables v.tables lawful.tables_in_order;
        aligned = aligned_here good b;
        extent = b.may.inside.extent;
        start = b.may.levels;
        few = few_levels good b;
        below = h.range.below;
        walked = to_table;
      }

  pub top_over : alone → least_top f v.levels x.end ≤ v.top
  top_over = top_reaches good h.begun

  -- the tables over the extent are linked, where nobody else changes any
  pub owns_table : OwnsOver f u x.first level root → OwnsOver f d x.first level f.levels
  owns_table owned = λ j from to. elim (cases_lt j root) [
    | inl below ↦ elim (owned j from below) [
      | inl there ↦ inl (subst (λ (ps : List Position). IsAmong ps (position_over f x.first j)) (sym h.walked.book.tables) there)
      | inr spine ↦ inr (subst (λ (l : ℕ). IsTrue (is_spine l (position_over f x.first j))) (sym h.walked.range.levels) spine)
    ]
    | inr high ↦ inr (
        let b = h.begun in
        let levels = to_table.range.levels in let least = (lawful_here good b).top_least in let reach = b.rooted.reaches in
        let wide = table_mono f root j high in let first = first_under good b in
        let spine : is_spine d.levels (spine_position j) ≡ true = and_from (nat_le (starting_top d.levels) j) (0 == 0) (le-leb (starting_top d.levels) j (omega arith)) (eq-eqb 0 0 refl) in
        subst (λ (p : Position). is_spine d.levels p ≡ true) (sym (over_first f x.first j (omega arith))) spine)
  ]

-- the root of a space that doesn't grow has all levels
pub fixed_reach : {f : Layout} (good : IsLayout f) {tells alone : Type 0} {v u : View} {x : Extent} {root : ℕ} → MayMap f v x → f.grows ≡ false → Rooted f tells alone v root u → x.end ≤ pages_of_table f root
fixed_reach {f} good {v = v} {x = x} {root = root} may fixed rooted =
    let lawful = may.lawful may.rest.0 may.rest.1 in
    let all = good.fixed fixed in let low = lawful.top_least in let reach = rooted.reaches in let legal = rooted.legal in let enough = may.levels in
    let is : root ≡ f.levels - 1 = omega arith in
    let wide : input_pages f ≤ pages_of_table f root = subst (λ (n : ℕ). input_pages f ≤ pages_of_table f n) (sym is) (space_in_table good) in
    let input = may.inside.extent.in_input in omega arith

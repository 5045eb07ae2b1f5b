-- Of the tables that an extent needs, those that end past the pages under the root: the others are those of its part there.
use Rattle.std.proofs.Common.{◌≡◌, ℕ, ◌+◌, ◌-◌, ◌*◌, ◌/◌, ◌^◌, ◌<◌, ◌≤◌, ◌⊎◌, List, [], ◌∷◌, ◌++◌, length, true, refl, ap, sym, subst, ◌∙◌, arith, inl, inr}
use Rattle.std.specs.Prelude.{filter, map, min, not}
use Rattle.std.proofs.lemmas.Bool.{cases_lt, ltb-false, le-ltb, not-true}
use Rattle.std.proofs.lemmas.Nat.{div_below, mod_below, mul-le, pow-add, pow_below, pow_pos, shr_split}
use Rattle.std.proofs.lemmas.List.Filters.{length-filter_both}
use Rattle.std.proofs.lemmas.List.FromFn.{length-map-range_with_len}
use Rattle.pt_model.specs.declared.block.Block.{Block}
use Rattle.pt_model.specs.declared.block.Prot.{Prot}
use Rattle.pt_model.specs.declared.position.Position.{Position}
use Rattle.pt_model.specs.Layout.{Layout, end_of, input_pages, level_of_size, pages, pages_of_entry, pages_of_table}
use Rattle.pt_model.specs.Sets.{IsAmong}
use Rattle.pt_model.specs.Tables.{all_needed, end_of_table, least_top, levels_between, needed, position_over, spine_position}
use Rattle.pt_model.specs.Tiling.{IsTiling}
use Rattle.pt_model.proofs.Positions.{among_append, among_filtered, among_passes, among_right, same_members, sorted_filter, sorted_levels}
use Rattle.pt_model.proofs.Tops.{above_top, power_mono, reaches_top, table_mono, top_mono}
use Rattle.pt_format.specs.Laws.{IsLayout}
use Rattle.pt_tile.specs.declared.extent.Extent.{Extent}
use Rattle.pt_tile.specs.Extents.{IsExtent, IsOneBlock, first_size, from, tiles, under_entry, up_to}
use Rattle.pt_tile.proofs.FirstParts.{cut_part, rest_part, tile_of}
use Rattle.pt_tile.proofs.FirstSizes.{extent_tiling, size_greatest}
use Rattle.pt_tile.proofs.Levels.{in_levels, levels_in}
use Rattle.pt_tile.proofs.UnderEntries.{split_tiles}
use Rattle.pt_map.specs.Past.{past_root, reaches_past}
use Rattle.pt_map.proofs.NeededTables.{AnyNeeds, any_needs, index_some, needing, needs_any, needs_sorted, space_in_table}

-- Blocks of lists.

one_of_both : (xs ys : List Block) (b : Block) → IsOneBlock (xs ++ ys) b → IsOneBlock xs b ⊎ IsOneBlock ys b
one_of_both [] ys b h = inr h
one_of_both (x ∷ xs) ys b h = elim h [
  | inl here ↦ inl (inl here)
  | inr more ↦ elim (one_of_both xs ys b more) [ inl a ↦ inl (inr a) | inr a ↦ inr a ]
]

one_left : (xs ys : List Block) (b : Block) → IsOneBlock xs b → IsOneBlock (xs ++ ys) b
one_left [] ys b h = absurd h
one_left (x ∷ xs) ys b h = elim h [ inl here ↦ inl here | inr more ↦ inr (one_left xs ys b more) ]

needs_by : (f : Layout) (n : ℕ) (bs : List Block) (b : Block) (p : Position) → IsOneBlock bs b → IsAmong (needed f n b) p → AnyNeeds f n bs p
needs_by f n [] b p h m = absurd h
needs_by f n (c ∷ bs) b p h m = elim h [
  | inl here ↦ inl (subst (λ (d : Block). IsAmong (needed f n d) p) (sym here) m)
  | inr more ↦ inr (needs_by f n bs b p more m)
]

-- what a block needs is over its first page, or of the spine
over_or_spine : (f : Layout) (n : ℕ) (b : Block) (p : Position) → IsAmong (needed f n b) p →
    ((p.level ≤ least_top f n (end_of b)) × (position_over f b.first p.level ≡ p))
    ⊎ ((n - 1 ≤ p.level) × (p.level ≤ least_top f n (end_of b)) × (spine_position p.level ≡ p))
over_or_spine f n b p m =
    let top : ℕ = least_top f n (end_of b) in
    elim (among_append p (map (position_over f b.first) (levels_between (level_of_size f b.log2) top)) _ m) [
      | inl over ↦ (let h = in_levels (position_over f b.first) (λ i. refl) (level_of_size f b.log2) top p over in inl (h.1, h.2))
      | inr spine ↦ (let h = in_levels spine_position (λ i. refl) (n - 1) top p spine in inr (h.0, h.1, h.2))
    ]

-- the spine up to the least top over the end of a tiling is needed by its last block
spine_needed : (f : Layout) (n : ℕ) (prot : Prot) (bs : List Block) (first out left level : ℕ) → IsTiling f prot first out left bs → 0 < left →
    n - 1 ≤ level → level ≤ least_top f n (first + left) → AnyNeeds f n bs (spine_position level)
spine_needed f n prot [] first out left level t some low up = absurd (let none = t in omega arith)
spine_needed f n prot (b ∷ bs) first out left level t some low up =
    let here : b.first ≡ first = ap (λ (c : Block). c.first) t.0 in
    elim (cases_lt (pages b) left) [
      | inl more ↦
          let ends : first + pages b + (left - pages b) ≡ first + left = omega arith in
          inr (spine_needed f n prot bs (first + pages b) (out + pages b) (left - pages b) level t.2 (omega arith) low (let e = ap (least_top f n) ends in omega arith))
      | inr last ↦
          let fits : pages b ≤ left = t.1.fits in
          let ends : end_of b ≡ first + left = omega arith in
          inl (among_right (spine_position level) (map (position_over f b.first) (levels_between (level_of_size f b.log2) (least_top f n (end_of b)))) _
          (levels_in spine_position (n - 1) (least_top f n (end_of b)) level low (let e = ap (least_top f n) ends in omega arith)))
    ]

-- a page past the table of a level at page 0 needs a top above the level
pub above_reach : (f : Layout) (n end level : ℕ) → level < f.levels → pages_of_table f level < end → level < least_top f n end
above_reach f n end level below past = elim (cases_lt level (least_top f n end)) [
  | inl fine ↦ fine
  | inr less ↦ absurd (let within = above_top f n end level below (omega arith) in omega arith)
]

-- and isn't past that of the highest level
pub last_reaches : (f : Layout) (end level : ℕ) → level < f.levels → end ≤ pages_of_table f (f.levels - 1) → pages_of_table f level < end → level + 1 < f.levels
last_reaches f end level below within past = elim (cases_lt (level + 1) f.levels) [
  | inl fine ↦ fine
  | inr high ↦ absurd (let wide = table_mono f (f.levels - 1) level (omega arith) in omega arith)
]

-- there are far fewer input pages than the greatest number
pub input_few : {f : Layout} → IsLayout f → input_pages f < 2 ^ 63
input_few {f} good = let high = good.pages_high in let few : 2 ^ (f.input - f.granule) ≤ 2 ^ 52 = power_mono (f.input - f.granule) 52 (omega arith) in omega arith

-- where a table at page 0 ends, as the code has it
pub reach_is : {f : Layout} → IsLayout f → {x : Extent} → IsExtent f x → (root : ℕ) → {reach : ℕ} → reach ≡ min (pages_of_table f root) (2 ^ 63) → pages_of_table f root < x.end → reach ≡ pages_of_table f root
reach_is {f} good {x} part root is past =
    let input = part.in_input in let high = good.pages_high in
    let few : 2 ^ (f.input - f.granule) ≤ 2 ^ 52 = power_mono (f.input - f.granule) 52 (omega arith) in omega arith

-- The root's table is too low for an extent.
module _ {f : Layout} (good : IsLayout f) {x : Extent} (part : IsExtent f x) (n root : ℕ) (start : f.start ≤ n) (low : n - 1 ≤ root) (past : pages_of_table f root < x.end) where
  abbrev pub reach : ℕ
  reach = pages_of_table f root

  pub small : first_size f x < f.index * (root + 1)
  small =
      let some = index_some good in
      let size = good.sizes_low (first_size f x) (size_greatest good part).legal.a_size in
      let m = mod_below (first_size f x) f.index some in
      let h = mul-le (first_size f x / f.index) f.index root f.index (omega arith) (omega arith) in
      let c : root * f.index + f.index ≡ f.index * (root + 1) = omega arith in omega arith

  pub low_spine : (level : ℕ) → pages_of_table f level ≤ reach → level ≤ root
  low_spine level within = elim (cases_lt root level) [
    | inr fine ↦ fine
    | inl above ↦ absurd (
        let some = index_some good in
        let step = mul-le f.index (root + 2) f.index (level + 1) (omega arith) (omega arith) in
        let wide = pow_below (f.index * (root + 1)) (f.index * (level + 1)) (omega arith) in omega arith)
  ]

  -- a table over a page that ends with the root or before it is over a page under the root
  under_page : (page level : ℕ) → end_of_table f (position_over f page level) ≤ reach → page < reach
  under_page page level ends =
      let s = shr_split page (f.index * (level + 1)) in
      let m = mod_below page (2 ^ (f.index * (level + 1))) (pow_pos (f.index * (level + 1))) in omega arith

  pub root_low : root + 1 < f.levels
  root_low = elim (cases_lt (root + 1) f.levels) [
    | inl fine ↦ fine
    | inr high ↦ absurd (
        let wide = table_mono f (f.levels - 1) root (omega arith) in
        let all = space_in_table good in let input = part.in_input in omega arith)
  ]

  pub past_top : root < least_top f n x.end
  past_top = above_reach f n x.end root (let few = root_low in omega arith) past

  abbrev pub all : List Position
  all = all_needed f n (tiles f x)

  tiling_here : IsTiling f x.prot x.first x.out (x.end - x.first) (tiles f x)
  tiling_here = extent_tiling good part

  -- the spine up to the top is needed
  pub spine_above : (level : ℕ) → n - 1 ≤ level → level ≤ least_top f n x.end → IsAmong all (spine_position level)
  spine_above level from to =
      let some = part.some in
      let ends : x.first + (x.end - x.first) ≡ x.end = omega arith in
      any_needs f n (tiles f x) (spine_position level)
      (spine_needed f n x.prot (tiles f x) x.first x.out (x.end - x.first) level tiling_here (omega arith) from (let e = ap (least_top f n) ends in omega arith))

  spine_here : (level : ℕ) → n - 1 ≤ level → level ≤ root → IsAmong all (spine_position level)
  spine_here level from to = spine_above level from (let top = past_top in omega arith)

  -- a position that isn't past the root ends with it or before
  pub not_past : (p : Position) → not (reaches_past f root p) ≡ true → end_of_table f p ≤ reach
  not_past p h = ltb-false reach (end_of_table f p) (not-true (reaches_past f root p) h)

  pub is_not_past : (p : Position) → end_of_table f p ≤ reach → not (reaches_past f root p) ≡ true
  is_not_past p ends = ap not (le-ltb reach (end_of_table f p) ends)

  abbrev pub under_root : List Position
  under_root = filter (λ p. not (reaches_past f root p)) all

  -- all needed positions are those past the root and the others
  counted : length (past_root f n root x) + length under_root ≡ length all
  counted = length-filter_both (reaches_past f root) (λ p. not (reaches_past f root p)) (λ p. refl) all

  -- No page of the extent is under the root: the others are the spine.
  module _ (beyond : reach ≤ x.first) where
    pub spine_alone : under_root ≡ map spine_position (levels_between (n - 1) root)
    spine_alone = same_members _ _ (sorted_filter _ all (needs_sorted f n (tiles f x))) (sorted_levels spine_position (λ i. refl) (root + 1 - (n - 1)) (n - 1))
        (λ p m.
        let r = among_filtered (λ q. not (reaches_past f root q)) all p m in
        let ends = not_past p r.1 in
        let b = needing f n (tiles f x) p (needs_any f n (tiles f x) p r.0) in
        elim (over_or_spine f n b.0 p b.2) [
          | inl over ↦ absurd (
              let from = (tile_of good part b.0 b.1).from in
              let under = under_page b.0.first p.level (subst (λ (q : Position). end_of_table f q ≤ reach) (sym over.1) ends) in omega arith)
          | inr spine ↦
              let here : end_of_table f (spine_position p.level) ≤ reach = subst (λ (q : Position). end_of_table f q ≤ reach) (sym spine.2) ends in
              let to = low_spine p.level (omega arith) in
              subst (IsAmong (map spine_position (levels_between (n - 1) root))) spine.2 (levels_in spine_position (n - 1) root p.level spine.0 to)
        ])
        (λ p m.
        let r = in_levels spine_position (λ i. refl) (n - 1) root p m in
        let wide = table_mono f p.level root r.1 in
        subst (IsAmong under_root) r.2 (among_passes (λ q. not (reaches_past f root q)) all (spine_position p.level) (spine_here p.level r.0 r.1) (is_not_past (spine_position p.level) (omega arith))))

    pub past_beyond : length (past_root f n root x) + (root + 1 - (n - 1)) ≡ length all
    past_beyond = let sum = counted in let many : length under_root ≡ root + 1 - (n - 1) = ap length spine_alone ∙ length-map-range_with_len spine_position (n - 1) (root + 1 - (n - 1)) in omega arith

  -- Its first page is: the others are those of its part there.
  module _ (within : x.first < reach) where
    abbrev pub near : Extent
    near = up_to x reach

    pub near_part : IsExtent f near
    near_part = cut_part good part reach within (omega arith)

    under_is : (under_entry f (root + 1) x).end ≡ reach
    under_is =
        let none : x.first / pages_of_entry f (root + 1) ≡ 0 = (let d = div_below x.first (pages_of_entry f (root + 1)) 1 (pow_pos (f.index * (root + 1))) (omega arith) in omega arith) in
        let whole : (x.first / pages_of_entry f (root + 1) + 1) * pages_of_entry f (root + 1) ≡ reach = ap (λ (q : ℕ). (q + 1) * pages_of_entry f (root + 1)) none ∙ (let e : (0 + 1) * reach ≡ reach = omega arith in e) in
        omega arith

    pub parted : tiles f x ≡ tiles f near ++ tiles f (from x reach)
    parted = (split_tiles good part (root + 1) small).0 ∙ ap (λ (e : ℕ). tiles f (up_to x e) ++ tiles f (from x e)) under_is

    pub far_block : (b : Block) → IsOneBlock (tiles f (from x reach)) b → reach ≤ b.first
    far_block b h = (tile_of good (rest_part good part reach (omega arith) past) b h).from

    near_block : (b : Block) → IsOneBlock (tiles f x) b → b.first < reach → IsOneBlock (tiles f near) b
    near_block b h before = elim (one_of_both (tiles f near) (tiles f (from x reach)) b (subst (λ (bs : List Block). IsOneBlock bs b) parted h)) [
      | inl here ↦ here
      | inr later ↦ absurd (let t = far_block b later in omega arith)
    ]

    near_tiling : IsTiling f x.prot x.first x.out (reach - x.first) (tiles f near)
    near_tiling = extent_tiling good near_part

    pub near_all : under_root ≡ all_needed f n (tiles f near)
    near_all = same_members _ _ (sorted_filter _ all (needs_sorted f n (tiles f x))) (needs_sorted f n (tiles f near))
        (λ p m.
        let r = among_filtered (λ q. not (reaches_past f root q)) all p m in
        let ends = not_past p r.1 in
        let b = needing f n (tiles f x) p (needs_any f n (tiles f x) p r.0) in
        any_needs f n (tiles f near) p (elim (over_or_spine f n b.0 p b.2) [
          | inl over ↦
              let under = under_page b.0.first p.level (subst (λ (q : Position). end_of_table f q ≤ reach) (sym over.1) ends) in
              needs_by f n (tiles f near) b.0 p (near_block b.0 b.1 under) b.2
          | inr spine ↦
              let here : end_of_table f (spine_position p.level) ≤ reach = subst (λ (q : Position). end_of_table f q ≤ reach) (sym spine.2) ends in
              let to = low_spine p.level (omega arith) in
              let sum : x.first + (reach - x.first) ≡ reach = omega arith in
              let tops : least_top f n (x.first + (reach - x.first)) ≡ least_top f n reach = ap (least_top f n) sum in
              let high : root ≤ least_top f n reach = root_needed in
              subst (AnyNeeds f n (tiles f near)) spine.2
              (spine_needed f n x.prot (tiles f near) x.first x.out (reach - x.first) p.level near_tiling (omega arith) spine.0 (omega arith))
        ]))
        (λ p m.
        let b = needing f n (tiles f near) p (needs_any f n (tiles f near) p m) in
        let t = tile_of good near_part b.0 b.1 in
        let to = t.to in
        let tops = top_mono f n (end_of b.0) reach (omega arith) in
        let most = reaches_top f n reach root low (omega arith) in
        let there = any_needs f n (tiles f x) p (needs_by f n (tiles f x) b.0 p (subst (λ (bs : List Block). IsOneBlock bs b.0) (sym parted) (one_left (tiles f near) (tiles f (from x reach)) b.0 b.1)) b.2) in
        among_passes (λ q. not (reaches_past f root q)) all p there (is_not_past p (elim (over_or_spine f n b.0 p b.2) [
          | inl over ↦
              let some = pow_pos b.0.log2 in
              subst (λ (q : Position). end_of_table f q ≤ reach) over.1 (table_within b.0.first p.level (omega arith) (let up = over.0 in omega arith))
          | inr spine ↦
              let wide = table_mono f p.level root (let up = spine.1 in omega arith) in
              subst (λ (q : Position). end_of_table f q ≤ reach) spine.2 (let e : end_of_table f (spine_position p.level) ≤ reach = omega arith in e)
        ])))
      where
        root_needed : root ≤ least_top f n reach
        root_needed = elim (cases_lt (least_top f n reach) root) [
          | inr fine ↦ fine
          | inl less ↦ absurd (
              let few = root_low in
              let short = above_top f n reach (root - 1) (omega arith) (omega arith) in
              let within' = low_spine root (let e : pages_of_table f root ≤ reach = omega arith in e) in
              let some = index_some good in
              let step : root - 1 + 1 ≡ root = omega arith in
              let narrow = pow_below (f.index * (root - 1 + 1)) (f.index * (root + 1)) (let k = mul-le f.index (root - 1 + 2) f.index (root + 1) (omega arith) (omega arith) in omega arith) in omega arith)
        ]

        table_within : (page level : ℕ) → page < reach → level ≤ root → end_of_table f (position_over f page level) ≤ reach
        table_within page level before up =
            let k : ℕ = f.index * (level + 1) in
            let more : ℕ = f.index * (root - level) in
            let bits : more + k ≡ f.index * (root + 1) = (let h : root - level + (level + 1) ≡ root + 1 = omega arith in (let g : f.index * (root - level) + f.index * (level + 1) ≡ f.index * (root - level + (level + 1)) = omega arith in g) ∙ ap (λ y. f.index * y) h) in
            let pages : 2 ^ (more + k) ≡ 2 ^ more * 2 ^ k = pow-add 2 more k in
            let whole : reach ≡ 2 ^ more * 2 ^ k = ap (λ y. 2 ^ y) (sym bits) ∙ pages in
            let less : page / 2 ^ k < 2 ^ more = div_below page (2 ^ k) (2 ^ more) (pow_pos k) (omega arith) in
            let h = mul-le (page / 2 ^ k + 1) (2 ^ k) (2 ^ more) (2 ^ k) (omega arith) (omega arith) in omega arith

    pub past_near : length (past_root f n root x) + length (all_needed f n (tiles f near)) ≡ length all
    past_near = let sum = counted in let same = ap length near_all in omega arith

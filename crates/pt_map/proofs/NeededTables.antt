-- The tables over the blocks of an extent, by their levels.
use Rattle.std.proofs.lemmas.Bool.{ltb-false, not-true}
use Rattle.std.proofs.Common.{◌≡◌, ℕ, zero, suc, ◌+◌, ◌-◌, ◌*◌, ◌/◌, ◌%◌, ◌^◌, ◌<◌, ◌≤◌, ◌⊎◌, ◌↔◌, List, [], ◌∷◌, ◌++◌, length, true, false, refl, ap, sym, subst, ◌∙◌, arith, inl, inr}
use Rattle.std.specs.Prelude.{IsTrue, ◌==◌, filter, map, min, not, nat_le, nat_lt}
use Rattle.std.specs.List.{range_with_len}
use Rattle.std.proofs.lemmas.Bool.{and_from, cases_lt, eq-eqb, false≢true, le-leb, ltb-true, lt-ltb, le-ltb}
use Rattle.std.proofs.Math.Nat.{mul-mod_left}
use Rattle.std.proofs.lemmas.Nat.{div_below, pow-add, pow_below, pow_pos, mod_below, mul-le, shr-shr, shr_split}
use Rattle.std.proofs.lemmas.List.Filters.{length-filter_both}
use Rattle.std.proofs.lemmas.List.FromFn.{length-map-range_with_len}
use Rattle.pt_model.specs.declared.block.Block.{Block}
use Rattle.pt_model.specs.declared.block.Prot.{Prot}
use Rattle.pt_model.specs.declared.position.Position.{Position}
use Rattle.pt_model.specs.Layout.{Layout, IsLegalBlock, end_of, input_pages, is_size, level_of_size, pages_of_entry, pages_of_table}
use Rattle.pt_model.specs.Tables.{add_positions, all_needed, end_of_table, least_top, levels_between, needed, position_over, spine_position, is_spine}
use Rattle.pt_model.specs.Tiling.{block_at}
use Rattle.pt_model.specs.Sets.{IsAmong, IsSorted}
use Rattle.pt_model.proofs.Positions.{among_filtered, among_passes, same_members, sorted_adds, sorted_filter, sorted_levels, among_none, adds_are, among_levels, levels_among, among_append, among_left}
use Rattle.pt_model.proofs.TilingFacts.{tiling_first}
use Rattle.pt_model.proofs.Tops.{above_top, power_mono, reaches_top, top_below, top_low}
use Rattle.pt_format.specs.Laws.{IsLayout}
use Rattle.pt_tile.proofs.Levels.{in_levels, levels_in, over_first, size_low}
use Rattle.pt_tile.proofs.Needed.{all_from}
use Rattle.pt_model.proofs.Quotients.{floor_le, multiple_under}
use Rattle.pt_tile.specs.declared.extent.Extent.{Extent}
use Rattle.pt_tile.proofs.FirstSizes.{size_greatest}
use Rattle.pt_tile.specs.Extents.{IsExtent, first_size, tables_below, tables_of, tiles, IsOneBlock}
use Rattle.pt_tile.proofs.FirstParts.{IsTile, tile_of}
use Rattle.pt_tile.specs.Runs.{run_blocks}

-- a block of a list needs a position
abbrev pub AnyNeeds : Layout → (levels : ℕ) → List Block → Position → Type 0
AnyNeeds f levels [] p = ⊥
AnyNeeds f levels (b ∷ bs) p = IsAmong (needed f levels b) p ⊎ AnyNeeds f levels bs p

-- and this is one of it
pub needing : (f : Layout) (l : ℕ) (bs : List Block) (p : Position) → AnyNeeds f l bs p → (b : Block) × IsOneBlock bs b × IsAmong (needed f l b) p
needing f l [] p h = absurd h
needing f l (b ∷ bs) p h = elim h [
  | inl m ↦ (b, inl refl, m)
  | inr more ↦ (let r : (c : Block) × IsOneBlock bs c × IsAmong (needed f l c) p = needing f l bs p more in (r.0, inr r.1, r.2))
]

-- the members of what all blocks need

from_any : (f : Layout) (l : ℕ) (bs : List Block) (ps : List Position) (p : Position) → IsAmong (all_from f l ps bs) p → IsAmong ps p ⊎ AnyNeeds f l bs p
from_any f l [] ps p m = inl m
from_any f l (b ∷ bs) ps p m = elim (from_any f l bs (add_positions ps (needed f l b)) p m) [
  | inl here ↦ elim ((adds_are (needed f l b) ps p).0 here) [ inl old ↦ inl old | inr new ↦ inr (inl new) ]
  | inr later ↦ inr (inr later)
]

any_from : (f : Layout) (l : ℕ) (bs : List Block) (ps : List Position) (p : Position) → IsAmong ps p ⊎ AnyNeeds f l bs p → IsAmong (all_from f l ps bs) p
any_from f l [] ps p h = elim h [ inl m ↦ m | inr none ↦ absurd none ]
any_from f l (b ∷ bs) ps p h = any_from f l bs (add_positions ps (needed f l b)) p (elim h [
  | inl old ↦ inl ((adds_are (needed f l b) ps p).1 (inl old))
  | inr new ↦ elim new [ inl here ↦ inl ((adds_are (needed f l b) ps p).1 (inr here)) | inr later ↦ inr later ]
])

pub needs_any : (f : Layout) (l : ℕ) (bs : List Block) (p : Position) → IsAmong (all_needed f l bs) p → AnyNeeds f l bs p
needs_any f l bs p h = elim (from_any f l bs [] p (h)) [ inl none ↦ absurd (among_none p none) | inr any ↦ any ]

pub any_needs : (f : Layout) (l : ℕ) (bs : List Block) (p : Position) → AnyNeeds f l bs p → IsAmong (all_needed f l bs) p
any_needs f l bs p h = (any_from f l bs [] p (inr h))

-- two runs of blocks need what each of them needs
pub needs_append : (f : Layout) (l : ℕ) (xs ys : List Block) (p : Position) →
    IsAmong (all_needed f l (xs ++ ys)) p ↔ (IsAmong (all_needed f l xs) p ⊎ IsAmong (all_needed f l ys) p)
needs_append f l xs ys p =
    let both : all_needed f l (xs ++ ys) ≡ all_from f l (all_needed f l xs) ys = from_append f l xs ys [] in (
      (λ h. elim (from_any f l ys (all_needed f l xs) p (subst (λ (ps : List Position). IsAmong ps p) both h)) [ inl a ↦ inl a | inr b ↦ inr (any_needs f l ys p b) ]),
      (λ h. subst (λ (ps : List Position). IsAmong ps p) (sym both) (any_from f l ys (all_needed f l xs) p (elim h [ inl a ↦ inl a | inr b ↦ inr (needs_any f l ys p b) ]))),
    )
  where
    from_append : (f : Layout) (l : ℕ) (xs ys : List Block) (ps : List Position) → all_from f l ps (xs ++ ys) ≡ all_from f l (all_from f l ps xs) ys
    from_append f l [] ys ps = refl
    from_append f l (x ∷ xs) ys ps = from_append f l xs ys (add_positions ps (needed f l x))

-- what blocks need is in order, and each position is there once

sorted_from : (f : Layout) (l : ℕ) (bs : List Block) (ps : List Position) → IsSorted ps → IsSorted (all_from f l ps bs)
sorted_from f l [] ps s = s
sorted_from f l (b ∷ bs) ps s = sorted_from f l bs (add_positions ps (needed f l b)) (sorted_adds (needed f l b) ps s)

pub needs_sorted : (f : Layout) (l : ℕ) (bs : List Block) → IsSorted (all_needed f l bs)
needs_sorted f l bs = sorted_from f l bs [] tt

-- Needed positions below a level.

pub below_has : (f : Layout) (level : ℕ) (x : Extent) (p : Position) → IsAmong (tables_of f x) p → p.level < level → IsAmong (tables_below f x level) p
below_has f level x p h low = among_passes (λ q. nat_lt q.level level) (tables_of f x) p h (lt-ltb p.level level low)

pub has_below : (f : Layout) (level : ℕ) (x : Extent) (p : Position) → IsAmong (tables_below f x level) p → IsAmong (tables_of f x) p × (p.level < level)
has_below f level x p h = let r = among_filtered (λ q. nat_lt q.level level) (tables_of f x) p h in (r.0, ltb-true p.level level r.1)

-- Runs of 2 ^ j pages.

-- two pages of one run
pub same_run : (first page end j : ℕ) → first ≤ page → page < end → end ≤ (first / 2 ^ j + 1) * 2 ^ j → page / 2 ^ j ≡ first / 2 ^ j
same_run first page end j from to within =
    let base : ℕ = first / 2 ^ j * 2 ^ j in
    let split = shr_split first j in
    let rest = mod_below first (2 ^ j) (pow_pos j) in
    let aligned : base % 2 ^ j ≡ 0 = mul-mod_left (first / 2 ^ j) (2 ^ j) in
    let here : base / 2 ^ j ≡ page / 2 ^ j = multiple_under page j base aligned (omega arith) (omega arith) in
    let there : base / 2 ^ j ≡ first / 2 ^ j = multiple_under first j base aligned (omega arith) (omega arith) in
    sym here ∙ there

-- a run ends within the longer one over it
pub run_ends : (page j over : ℕ) → (page / 2 ^ j + 1) * 2 ^ j ≤ (page / 2 ^ (over + j) + 1) * 2 ^ (over + j)
run_ends page j over =
    let m : ℕ = page / 2 ^ (over + j) in
    let pages : 2 ^ (over + j) ≡ 2 ^ over * 2 ^ j = pow-add 2 over j in
    let split = shr_split page (over + j) in
    let rest = mod_below page (2 ^ (over + j)) (pow_pos (over + j)) in
    let end : (m + 1) * 2 ^ (over + j) ≡ (m + 1) * 2 ^ over * 2 ^ j =
    ap (λ y. (m + 1) * y) pages ∙ (let g : (m + 1) * (2 ^ over * 2 ^ j) ≡ (m + 1) * 2 ^ over * 2 ^ j = omega arith in g) in
    let less : page < (m + 1) * 2 ^ over * 2 ^ j = omega arith in
    let below : page / 2 ^ j < (m + 1) * 2 ^ over = div_below page (2 ^ j) ((m + 1) * 2 ^ over) (pow_pos j) less in
    let h = mul-le (page / 2 ^ j + 1) (2 ^ j) ((m + 1) * 2 ^ over) (2 ^ j) (omega arith) (omega arith) in omega arith

-- A position lies under the entry over a page, in a table of a level.
pub record LiesUnder (f : Layout) (level page : ℕ) (p : Position) : Type 0 where
  pub low : p.level < level
  pub from : page / pages_of_entry f level * pages_of_entry f level ≤ p.base
  pub to : end_of_table f p ≤ (page / pages_of_entry f level + 1) * pages_of_entry f level

module _ {f : Layout} (good : IsLayout f) where
  pub index_some : 0 < f.index
  index_some = omega (arith, good.index_is, good.granule_low)

  levels_some : f.levels - 1 + 1 ≡ f.levels
  levels_some = omega (arith, good.start_low, good.start_high)

  -- the table of the highest level at page 0 is over all pages
  pub space_in_table : input_pages f ≤ pages_of_table f (f.levels - 1)
  space_in_table =
      let bits : f.input - f.granule ≤ f.index * (f.levels - 1 + 1) = rw levels_some (omega (arith, good.has_levels)) in
      power_mono (f.input - f.granule) (f.index * (f.levels - 1 + 1)) bits

  pub top_is : (end : ℕ) → end ≤ input_pages f → least_top f f.levels end ≡ f.levels - 1
  top_is end within =
      let high = reaches_top f f.levels end (f.levels - 1) (omega arith) (omega (arith, space_in_table)) in
      let low = top_low f f.levels end in omega arith

  pub low_size : (k : ℕ) → IsTrue (is_size f k) → level_of_size f k < f.levels
  low_size k a = omega (arith, good.sizes_low k a, good.start_high)

  -- A block needs the table over its first page at each level from its own on, and no other.
  module _ (b : Block) (a_size : IsTrue (is_size f b.log2)) (within : end_of b ≤ input_pages f) where
    top_last : position_over f b.first (f.levels - 1) ≡ spine_position (f.levels - 1)
    top_last = over_first f b.first (f.levels - 1) (omega (arith, space_in_table, pow_pos b.log2))

    pub needs_of_block : (p : Position) → IsAmong (needed f f.levels b) p → (level_of_size f b.log2 ≤ p.level) × (p.level < f.levels) × (position_over f b.first p.level ≡ p)
    needs_of_block p m =
        let top : least_top f f.levels (end_of b) ≡ f.levels - 1 = top_is (end_of b) within in
        let some : f.levels - 1 + 1 ≡ f.levels = levels_some in
        elim (among_append p (map (position_over f b.first) (levels_between (level_of_size f b.log2) (least_top f f.levels (end_of b)))) _ m) [
          | inl over ↦
              let h = in_levels (position_over f b.first) (λ i. refl) (level_of_size f b.log2) (least_top f f.levels (end_of b)) p over in
              (h.0, omega arith, h.2)
          | inr spine ↦
              let h = in_levels spine_position (λ i. refl) (f.levels - 1) (least_top f f.levels (end_of b)) p spine in
              let here : p.level ≡ f.levels - 1 = omega arith in
              let size = low_size b.log2 a_size in
              (omega arith, omega arith, ap (position_over f b.first) here ∙ top_last ∙ sym (ap spine_position here) ∙ h.2)
        ]

    pub block_needs : (k : ℕ) → level_of_size f b.log2 ≤ k → k < f.levels → IsAmong (needed f f.levels b) (position_over f b.first k)
    block_needs k from to =
        let top : least_top f f.levels (end_of b) ≡ f.levels - 1 = top_is (end_of b) within in
        among_left (position_over f b.first k) (map (position_over f b.first) (levels_between (level_of_size f b.log2) (least_top f f.levels (end_of b)))) _
        (levels_in (position_over f b.first) (level_of_size f b.log2) (least_top f f.levels (end_of b)) k from (omega arith))

    -- off the spine it needs the same positions in a space that starts with fewer levels
    module _ (levels : ℕ) (start : f.start ≤ levels) (few : levels ≤ f.levels) (p : Position) (off : is_spine levels p ≡ false) where
      abbrev top : ℕ
      top = least_top f levels (end_of b)

      spine_not : (level : ℕ) → levels - 1 ≤ level → spine_position level ≡ p → ⊥
      spine_not level high is = false≢true (sym off ∙ subst (λ (q : Position). is_spine levels q ≡ true) is
          (and_from (nat_le (levels - 1) level) (0 == 0) (le-leb (levels - 1) level high) (eq-eqb 0 0 refl)))

      pub needed_more : IsAmong (needed f levels b) p → IsAmong (needed f f.levels b) p
      needed_more h = elim (among_append p (map (position_over f b.first) (levels_between (level_of_size f b.log2) top)) _ h) [
        | inl over ↦
            let r = in_levels (position_over f b.first) (λ i. refl) (level_of_size f b.log2) top p over in
            let most = top_below f levels (end_of b) (omega (arith, good.start_low)) few (omega (arith, good.start_low)) (omega (arith, space_in_table)) in
            subst (IsAmong (needed f f.levels b)) r.2 (block_needs p.level r.0 (let low = r.1 in omega arith))
        | inr spine ↦ (let r = in_levels spine_position (λ i. refl) (levels - 1) top p spine in absurd (spine_not p.level r.0 r.2))
      ]

      pub needed_fewer : IsAmong (needed f f.levels b) p → IsAmong (needed f levels b) p
      needed_fewer h =
          let r = needs_of_block p h in
          elim (cases_lt top p.level) [
            | inr within ↦
                among_left p (map (position_over f b.first) (levels_between (level_of_size f b.log2) top)) _
                (subst (IsAmong (map (position_over f b.first) (levels_between (level_of_size f b.log2) top))) r.2
                (levels_in (position_over f b.first) (level_of_size f b.log2) top p.level r.0 within))
            | inl above ↦ absurd (
                let reach = above_top f levels (end_of b) p.level r.1 (omega arith) in
                let least = top_low f levels (end_of b) in
                spine_not p.level (omega arith) (sym (over_first f b.first p.level (let some = pow_pos b.log2 in omega arith)) ∙ r.2))
          ]

  -- The positions over an extent, at each level.
  module _ {x : Extent} (part : IsExtent f x) where
    -- off the spine its blocks need the same positions in a space that starts with fewer levels
    module _ (levels : ℕ) (start : f.start ≤ levels) (few : levels ≤ f.levels) (p : Position) (off : is_spine levels p ≡ false) where
      each_block : (bs : List Block) → ((b : Block) → IsOneBlock bs b → IsTile f x.first x.end b) → AnyNeeds f levels bs p ↔ AnyNeeds f f.levels bs p
      each_block [] tiles = ((λ h. h), (λ h. h))
      each_block (b ∷ bs) tiles =
          let t = tiles b (inl refl) in
          let input = part.in_input in
          let within : end_of b ≤ input_pages f = (let to = t.to in omega arith) in
          let rest = each_block bs (λ c m. tiles c (inr m)) in (
            (λ h. elim h [ inl m ↦ inl (needed_more b t.legal.a_size within levels start few p off m) | inr more ↦ inr (rest.0 more) ]),
            (λ h. elim h [ inl m ↦ inl (needed_fewer b t.legal.a_size within levels start few p off m) | inr more ↦ inr (rest.1 more) ]),
          )

      pub needed_same : IsAmong (all_needed f levels (tiles f x)) p ↔ IsAmong (tables_of f x) p
      needed_same =
          let each = each_block (tiles f x) (tile_of good part) in (
            (λ h. any_needs f f.levels (tiles f x) p (each.0 (needs_any f levels (tiles f x) p h))),
            (λ h. any_needs f levels (tiles f x) p (each.1 (needs_any f f.levels (tiles f x) p h))),
          )

    -- a needed position is over the first page of a block of the part
    pub needs_page : (p : Position) → IsAmong (tables_of f x) p → (page : ℕ) × (x.first ≤ page) × (page < x.end) × (p.level < f.levels) × (position_over f page p.level ≡ p)
    needs_page p h =
        let r = needing f f.levels (tiles f x) p (needs_any f f.levels (tiles f x) p h) in
        let b : Block = r.0 in
        let t = tile_of good part b r.1 in
        let input = part.in_input in let from = t.from in let to = t.to in
        let n = needs_of_block b t.legal.a_size (omega arith) p r.2 in
        (b.first, from, (let some = pow_pos b.log2 in omega arith), n.1, n.2)

    -- the tables over its first page are needed from the level of its first block on
    pub over_needed : (level : ℕ) → first_size f x < f.index * (level + 1) → level < f.levels → IsAmong (tables_of f x) (position_over f x.first level)
    over_needed level low below =
        let some = part.some in let input = part.in_input in
        let top = size_greatest good part in
        let fits : 2 ^ first_size f x ≤ x.end - x.first = top.fits in
        let b : Block = block_at x.first (first_size f x) x.out x.prot in
        let m : IsAmong (needed f f.levels b) (position_over f x.first level) = block_needs b top.legal.a_size (omega arith) level (size_low f.index (first_size f x) level index_some low) below in
        let first = tiling_first f x.prot x.first x.out (x.end - x.first) (first_size f x) good.has_pages (omega arith) part.in_output top in
        any_needs f f.levels (tiles f x) (position_over f x.first level)
        (subst (λ (bs : List Block). AnyNeeds f f.levels bs (position_over f x.first level)) (sym first) (inl m))

    -- Under one table of a level, all needed positions of this level and above are those over the first page.
    module _ (level : ℕ) (under : x.end ≤ end_of_table f (position_over f x.first level)) where
      pub same_table : (page high : ℕ) → x.first ≤ page → page < x.end → level ≤ high → position_over f page high ≡ position_over f x.first high
      same_table page high from to above =
          let j : ℕ = f.index * (level + 1) in
          let k : ℕ = f.index * (high + 1) in
          let wider : j ≤ k = mul-le f.index (level + 1) f.index (high + 1) (omega arith) (omega arith) in
          let here : page / 2 ^ j ≡ x.first / 2 ^ j = same_run x.first page x.end j from to (omega arith) in
          let bits : j + (k - j) ≡ k = omega arith in
          let over : (n : ℕ) → n / 2 ^ j / 2 ^ (k - j) ≡ n / 2 ^ k = λ n. shr-shr n j (k - j) ∙ ap (λ y. n / 2 ^ y) bits in
          let same : page / 2 ^ k ≡ x.first / 2 ^ k = sym (over page) ∙ ap (λ y. y / 2 ^ (k - j)) here ∙ over x.first in
          ap (λ y. record { level = high; base = y * 2 ^ k }) same

      pub needs_over : (p : Position) → IsAmong (tables_of f x) p → level ≤ p.level → position_over f x.first p.level ≡ p
      needs_over p h above =
          let r = needs_page p h in
          sym (same_table r.0 p.level r.1 r.2 above) ∙ r.4

    -- Under one entry of a table of a level, the needed positions below this level lie under that entry, and the others are
    -- those over the first page, one a level.
    module _ (level : ℕ) (below : level < f.levels) (one : x.end ≤ (x.first / pages_of_entry f level + 1) * pages_of_entry f level) where
      pub in_table : x.end ≤ end_of_table f (position_over f x.first level)
      in_table =
          let e : f.index + f.index * level ≡ f.index * (level + 1) = omega arith in
          let h = run_ends x.first (f.index * level) f.index in
          let wide : (x.first / 2 ^ (f.index + f.index * level) + 1) * 2 ^ (f.index + f.index * level) ≡ end_of_table f (position_over f x.first level) =
          ap (λ k. (x.first / 2 ^ k + 1) * 2 ^ k) e ∙ (let g : (x.first / pages_of_table f level + 1) * pages_of_table f level ≡ x.first / pages_of_table f level * pages_of_table f level + pages_of_table f level = omega arith in g) in
          omega arith

      pub needs_under : (p : Position) → IsAmong (tables_of f x) p → p.level < level → LiesUnder f level x.first p
      needs_under p h low =
          let r = needs_page p h in
          let page : ℕ = r.0 in
          let j : ℕ = f.index * (p.level + 1) in
          let over : ℕ = f.index * (level - (p.level + 1)) in
          let bits : over + j ≡ f.index * level =
          (let h : level - (p.level + 1) + (p.level + 1) ≡ level = omega arith in
          (let g : f.index * (level - (p.level + 1)) + f.index * (p.level + 1) ≡ f.index * (level - (p.level + 1) + (p.level + 1)) = omega arith in g) ∙ ap (λ y. f.index * y) h) in
          let base : page / 2 ^ j * 2 ^ j ≡ p.base = ap (λ (q : Position). q.base) r.4 in
          let same : page / 2 ^ (f.index * level) ≡ x.first / 2 ^ (f.index * level) = same_run x.first page x.end (f.index * level) r.1 r.2 one in
          let first : page / 2 ^ (over + j) * 2 ^ (over + j) ≡ x.first / pages_of_entry f level * pages_of_entry f level =
          ap (λ y. page / 2 ^ y * 2 ^ y) bits ∙ ap (λ y. y * pages_of_entry f level) same in
          let last : (page / 2 ^ (over + j) + 1) * 2 ^ (over + j) ≡ (x.first / pages_of_entry f level + 1) * pages_of_entry f level =
          ap (λ y. (page / 2 ^ y + 1) * 2 ^ y) bits ∙ ap (λ y. (y + 1) * pages_of_entry f level) same in
          let a = floor_le page j over in
          let b = run_ends page j over in
          record { low = low; from = omega arith; to = omega arith }

      pub below_under : (p : Position) → IsAmong (tables_below f x level) p → LiesUnder f level x.first p
      below_under p h = let r = has_below f level x p h in needs_under p r.0 r.1

      small_step : first_size f x ≤ f.index * level
      small_step =
          let some = part.some in
          let fits : 2 ^ first_size f x ≤ x.end - x.first = (size_greatest good part).fits in
          let split = shr_split x.first (f.index * level) in
          let few : 2 ^ first_size f x ≤ pages_of_entry f level = omega arith in
          elim (cases_lt (f.index * level) (first_size f x)) [
            | inl more ↦ absurd (let wide = pow_below (f.index * level) (first_size f x) more in omega arith)
            | inr fine ↦ fine
          ]

      pub high_needed : (k : ℕ) → level ≤ k → k < f.levels → IsAmong (tables_of f x) (position_over f x.first k)
      high_needed k from to =
          let small = small_step in
          let some = index_some in
          let wider : f.index * (level + 1) ≤ f.index * (k + 1) = mul-le f.index (level + 1) f.index (k + 1) (omega arith) (omega arith) in
          over_needed k (omega arith) to

      high_list : filter (λ p. not (nat_lt p.level level)) (tables_of f x) ≡ map (position_over f x.first) (range_with_len level (f.levels - level))
      high_list = same_members _ _
          (sorted_filter (λ p. not (nat_lt p.level level)) (tables_of f x) (needs_sorted f f.levels (tiles f x)))
          (sorted_levels (position_over f x.first) (λ i. refl) (f.levels - level) level)
          (λ p m.
          let r = among_filtered (λ q. not (nat_lt q.level level)) (tables_of f x) p m in
          let among : IsAmong (tables_of f x) p = r.0 in
          let above : level ≤ p.level = ltb-false p.level level (not-true (nat_lt p.level level) r.1) in
          let page = needs_page p among in
          let within : p.level < f.levels = page.3 in
          subst (λ (q : Position). IsAmong (map (position_over f x.first) (range_with_len level (f.levels - level))) q) (needs_over level in_table p among above)
          (levels_among (position_over f x.first) (f.levels - level) level p.level above (omega arith)))
          (λ p m.
          let r = among_levels (position_over f x.first) (f.levels - level) level p m in
          let from = r.1 in let to = r.2 in
          subst (λ (q : Position). IsAmong (filter (λ o. not (nat_lt o.level level)) (tables_of f x)) q) (sym r.3)
          (among_passes (λ o. not (nat_lt o.level level)) (tables_of f x) (position_over f x.first r.0)
          ((high_needed r.0 from (omega arith)))
          (ap not (le-ltb r.0 level from))))

      -- how many they are
      pub count_needed : length (tables_of f x) ≡ length (tables_below f x level) + (f.levels - level)
      count_needed =
          let both = length-filter_both (λ (p : Position). nat_lt p.level level) (λ (p : Position). not (nat_lt p.level level)) (λ p. refl) (tables_of f x) in
          let high : length (filter (λ (p : Position). not (nat_lt p.level level)) (tables_of f x)) ≡ f.levels - level =
          ap length high_list ∙ length-map-range_with_len (position_over f x.first) level (f.levels - level) in
          omega arith

      -- the count of all needed positions but one, without those of the levels above this one
      pub count_below : (n over cap count : ℕ) → n ≡ f.levels → over ≡ f.levels - 1 - level → count ≡ min (cap + over) (length (all_needed f n (tiles f x)) - 1) →
          (over ≤ count) × (count - over ≡ min cap (length (tables_below f x level)))
      count_below n over cap count levels rest is =
          let all : length (all_needed f n (tiles f x)) ≡ length (tables_of f x) = ap (λ m. length (all_needed f m (tiles f x))) levels in
          let both = count_needed in (omega arith, omega arith)

    -- Under one table of level 0, with fewer pages than that has, it needs one table a level.
    module _ (under : x.end ≤ end_of_table f (position_over f x.first 0)) (small : first_size f x < f.index) where
      whole_list : tables_of f x ≡ map (position_over f x.first) (range_with_len 0 f.levels)
      whole_list = same_members _ _
          (needs_sorted f f.levels (tiles f x))
          (sorted_levels (position_over f x.first) (λ i. refl) f.levels 0)
          (λ p m.
          let page = needs_page p m in
          let within : p.level < f.levels = page.3 in
          subst (λ (q : Position). IsAmong (map (position_over f x.first) (range_with_len 0 f.levels)) q) (needs_over 0 under p m (omega arith))
          (levels_among (position_over f x.first) f.levels 0 p.level (omega arith) (omega arith)))
          (λ p m.
          let r = among_levels (position_over f x.first) f.levels 0 p m in
          let to = r.2 in
          let wider : f.index * 1 ≤ f.index * (r.0 + 1) = mul-le f.index 1 f.index (r.0 + 1) (omega arith) (omega arith) in
          subst (λ (q : Position). IsAmong (tables_of f x) q) (sym r.3) (over_needed r.0 (omega arith) (omega arith)))

      pub one_a_level : (level : ℕ) → level < f.levels → x.end ≤ (x.first / pages_of_entry f level + 1) * pages_of_entry f level → length (tables_below f x level) ≡ level
      one_a_level level below one =
          let both = count_needed level below one in
          let all : length (tables_of f x) ≡ f.levels = ap length whole_list ∙ length-map-range_with_len (position_over f x.first) 0 f.levels in
          omega arith

-- what a run needs is of the level of its blocks or higher
pub run_needs : (f : Layout) (good : IsLayout f) (prot : Prot) (k n first out : ℕ) (p : Position) → ((b : Block) → IsOneBlock (run_blocks n k prot first out) b → IsLegalBlock f b) →
    AnyNeeds f f.levels (run_blocks n k prot first out) p → level_of_size f k ≤ p.level
run_needs f good prot k zero first out p legal h = absurd h
run_needs f good prot k (suc n) first out p legal (inl m) =
    let l = legal (block_at first k out prot) (inl refl) in
    (needs_of_block good (block_at first k out prot) l.a_size l.in_input p m).0
run_needs f good prot k (suc n) first out p legal (inr more) = run_needs f good prot k n (first + 2 ^ k) (out + 2 ^ k) p (λ b m. legal b (inr m)) more

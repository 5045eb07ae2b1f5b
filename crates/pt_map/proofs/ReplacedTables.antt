-- Tables that blocks take the place of.
use Rattle.std.proofs.Common.{◌≡◌, ℕ, zero, suc, ◌+◌, ◌-◌, ◌*◌, ◌/◌, ◌%◌, ◌^◌, ◌<◌, ◌≤◌, Bool, true, false, List, [], ◌∷◌, ◌++◌, inl, inr, refl, ap, sym, subst, ◌∙◌, arith}
use Rattle.std.specs.Prelude.{◌||◌, filter, length, nat_le, nat_lt, not}
use Rattle.std.proofs.lemmas.Bool.{and_from, and_parts, cases_Bool, cases_lt, false_from_ne_true, false≢true, leb-true, le-leb, ltb-true, lt-ltb, or_cases, or_left, or_right}
use Rattle.std.proofs.lemmas.List.Folds.{list_any-append}
use Rattle.std.proofs.lemmas.Nat.{mod-mul-add, mod_below, mul-le, pow_pos, shr_split}
use Rattle.std.proofs.Math.Pow.{pow_mono}
use Rattle.std.proofs.Math.Nat.{div-mul-le_self, mul-le-mul_left}
use Rattle.pt_model.specs.declared.block.Block.{Block}
use Rattle.pt_model.specs.declared.block.Prot.{Prot}
use Rattle.pt_model.specs.declared.position.Position.{Position}
use Rattle.pt_model.specs.Layout.{Layout, end_of, level_of_size, pages_of_table}
use Rattle.pt_model.specs.Sets.{IsAmong}
use Rattle.pt_model.specs.Tables.{end_of_table, position_over, spine_position, starting_top}
use Rattle.pt_model.specs.Tiling.{IsTiling, block_at}
use Rattle.pt_model.proofs.Positions.{filter_in, filter_out}
use Rattle.pt_format.specs.Laws.{IsLayout}
use Rattle.pt_tile.specs.Runs.{run_blocks}
use Rattle.pt_tile.specs.declared.extent.Extent.{Extent}
use Rattle.pt_tile.specs.Extents.{IsExtent, IsOneBlock, first_size, tables_of, tiles}
use Rattle.pt_tile.proofs.Begun.{aligned_sum, coarse_is_fine}
use Rattle.pt_tile.proofs.FirstParts.{first_block, tile_in, tile_of}
use Rattle.pt_tile.proofs.FirstSizes.{extent_tiling}
use Rattle.pt_tile.proofs.Levels.{size_low}
use Rattle.pt_view.specs.declared.view.View.{View}
use Rattle.pt_walk.specs.Walks.{HasNoTable}
use Rattle.pt_map.specs.Filled.{IsTableIn}
use Rattle.pt_map.specs.Replaced.{HasNoneReplaced, is_table_in, is_replaced}
use Rattle.pt_map.specs.Stands.{IsExtentAt}
use Rattle.pt_map.proofs.NeededTables.{needing, needs_any, needs_of_block}

-- a table that begins in a block, below the one in which the block stands, ends in it
pub table_ends : (index level log2 first base : ℕ) → 0 < index → level < log2 / index → first % 2 ^ log2 ≡ 0 → base % 2 ^ (index * (level + 1)) ≡ 0 → base < first + 2 ^ log2 →
    base + 2 ^ (index * (level + 1)) ≤ first + 2 ^ log2
table_ends index level log2 first base some low aligned whole within =
    let j : ℕ = index * (level + 1) in
    let fits : j ≤ log2 = (
    let more : level + 1 ≤ log2 / index = omega arith in
    let a : index * (level + 1) ≤ index * (log2 / index) = mul-le-mul_left index more in
    let c : log2 / index * index ≡ index * (log2 / index) = omega arith in
    omega (arith, a, c, div-mul-le_self log2 index)) in
    let end : ℕ = first + 2 ^ log2 in
    let ends : end % 2 ^ j ≡ 0 = aligned_sum j log2 first fits (coarse_is_fine j log2 first fits aligned) in
    let split = shr_split base j in
    let split_end = shr_split end j in
    elim (cases_lt (base / 2 ^ j) (end / 2 ^ j)) [
      | inl less ↦ (let h = mul-le (base / 2 ^ j + 1) (2 ^ j) (end / 2 ^ j) (2 ^ j) (omega arith) (omega arith) in omega arith)
      | inr more ↦ absurd (let h = mul-le (end / 2 ^ j) (2 ^ j) (base / 2 ^ j) (2 ^ j) more (omega arith) in omega arith)
    ]

module _ (f : Layout) (p : Position) where
  begins_tells : (b : Block) → is_table_in f p b ≡ true → IsTableIn f b p
  begins_tells b e =
      let a = and_parts (nat_lt p.level (level_of_size f b.log2)) _ e in
      let c = and_parts (nat_le b.first p.base) _ a.1 in
      (ltb-true p.level (level_of_size f b.log2) a.0, leb-true b.first p.base c.0, ltb-true p.base (end_of b) c.1)

  begins_is : (b : Block) → IsTableIn f b p → is_table_in f p b ≡ true
  begins_is b h =
      and_from (nat_lt p.level (level_of_size f b.log2)) _ (lt-ltb p.level (level_of_size f b.log2) h.0)
      (and_from (nat_le b.first p.base) _ (le-leb b.first p.base h.1) (lt-ltb p.base (end_of b) h.2))

  -- a block takes the place of it
  pub replaced_tells : (bs : List Block) → is_replaced f bs p ≡ true → (b : Block) × IsOneBlock bs b × IsTableIn f b p
  replaced_tells [] e = absurd (false≢true e)
  replaced_tells (b ∷ bs) e = elim (or_cases (is_table_in f p b) (is_replaced f bs p) e) [
    | inl here ↦ (b, inl refl, begins_tells b here)
    | inr more ↦ (let r : (c : Block) × IsOneBlock bs c × IsTableIn f c p = replaced_tells bs more in (r.0, inr r.1, r.2))
  ]

  pub replaced_is : (bs : List Block) (b : Block) → IsOneBlock bs b → IsTableIn f b p → is_replaced f bs p ≡ true
  replaced_is [] b m h = absurd m
  replaced_is (c ∷ cs) b m h = elim m [
    | inl e ↦ or_left (is_table_in f p c) (is_replaced f cs p) (begins_is c (subst (λ (d : Block). IsTableIn f d p) (sym e) h))
    | inr more ↦ or_right (is_table_in f p c) (is_replaced f cs p) (replaced_is cs b more h)
  ]

  -- none does
  pub replaced_none : (bs : List Block) → is_replaced f bs p ≡ false → (b : Block) → IsOneBlock bs b → ¬ IsTableIn f b p
  replaced_none bs none b m = λ h. false≢true (sym none ∙ replaced_is bs b m h)

  pub none_replaced : (bs : List Block) → ((b : Block) → IsOneBlock bs b → ¬ IsTableIn f b p) → is_replaced f bs p ≡ false
  none_replaced bs none = false_from_ne_true (is_replaced f bs p) (λ e. let r = replaced_tells bs e in none r.0 r.1 r.2)

  pub replaced_append : (xs ys : List Block) → is_replaced f (xs ++ ys) p ≡ (is_replaced f xs p || is_replaced f ys p)
  replaced_append xs ys = list_any-append (is_table_in f p) xs ys

-- one test or another fails
pub or_false : (a b : Bool) → a ≡ false → b ≡ false → (a || b) ≡ false
or_false a b e d = false_from_ne_true (a || b) (λ h. elim (or_cases a b h) [ inl x ↦ false≢true (sym e ∙ x) | inr y ↦ false≢true (sym d ∙ y) ])

-- those that pass a test, and those that don't
pub two_parts : (t : Position → Bool) (ps : List Position) → length (filter t ps) + length (filter (λ p. not (t p)) ps) ≡ length ps
two_parts t [] = refl
two_parts t (p ∷ ps) =
    let rest : length (filter t ps) + length (filter (λ q. not (t q)) ps) ≡ length ps = two_parts t ps in
    elim (cases_Bool (t p)) [
      | inl e ↦ (let a = ap length (filter_in t p ps e) in let b = ap length (filter_out (λ q. not (t q)) p ps (ap not e)) in omega arith)
      | inr e ↦ (let a = ap length (filter_out t p ps e) in let b = ap length (filter_in (λ q. not (t q)) p ps (ap not e)) in omega arith)
    ]

-- Runs of blocks.

pub run_size : (n k : ℕ) (prot : Prot) (first out : ℕ) (b : Block) → IsOneBlock (run_blocks n k prot first out) b → b.log2 ≡ k
run_size zero k prot first out b m = absurd m
run_size (suc n) k prot first out b m = elim m [
  | inl e ↦ sym (ap (λ (c : Block). c.log2) e)
  | inr more ↦ run_size n k prot (first + 2 ^ k) (out + 2 ^ k) b more
]

-- a page of a run is one of a block of it
pub run_covers : (n k : ℕ) (prot : Prot) (first out page : ℕ) → first ≤ page → page < first + n * 2 ^ k → (b : Block) × IsOneBlock (run_blocks n k prot first out) b × (b.first ≤ page) × (page < end_of b)
run_covers zero k prot first out page low high = absurd (omega arith)
run_covers (suc n) k prot first out page low high = elim (cases_lt page (first + 2 ^ k)) [
  | inl here ↦ (block_at first k out prot, inl refl, low, here)
  | inr later ↦
      let one : suc n * 2 ^ k ≡ 2 ^ k + n * 2 ^ k = grind arith in
      let r : (b : Block) × IsOneBlock (run_blocks n k prot (first + 2 ^ k) (out + 2 ^ k)) b × (b.first ≤ page) × (page < end_of b) =
      run_covers n k prot (first + 2 ^ k) (out + 2 ^ k) page later (omega arith) in
      (r.0, inr r.1, r.2, r.3)
]

-- Tilings.

-- a block that begins in another one of a tiling is that one
same_tile : (f : Layout) (prot : Prot) (bs : List Block) (first out left : ℕ) (b c : Block) → IsTiling f prot first out left bs → IsOneBlock bs b → IsOneBlock bs c → b.first ≤ c.first → c.first < end_of b →
    b ≡ c
same_tile f prot [] first out left b c t hb hc low high = absurd hb
same_tile f prot (d ∷ ds) first out left b c t hb hc low high =
    let at : d.first ≡ first = ap (λ (x : Block). x.first) t.0 in
    let fits : 2 ^ d.log2 ≤ left = t.1.fits in
    let rest : (x : Block) → IsOneBlock ds x → first + 2 ^ d.log2 ≤ x.first =
    λ x m. (tile_in f prot ds (first + 2 ^ d.log2) (out + 2 ^ d.log2) (left - 2 ^ d.log2) (first + left) x (omega arith) t.2 m).from in
    elim hb [
      | inl eb ↦ elim hc [
        | inl ec ↦ sym eb ∙ ec
        | inr mc ↦ absurd (let after = rest c mc in let ends : end_of b ≡ end_of d = ap end_of (sym eb) in omega arith)
      ]
      | inr mb ↦ elim hc [
        | inl ec ↦ absurd (let after = rest b mb in let first_c : c.first ≡ d.first = ap (λ (x : Block). x.first) (sym ec) in let some = pow_pos d.log2 in omega arith)
        | inr mc ↦ same_tile f prot ds (first + 2 ^ d.log2) (out + 2 ^ d.log2) (left - 2 ^ d.log2) b c t.2 mb mc low high
      ]
    ]

-- the first page of a table is a multiple of its pages
over_aligned : (f : Layout) (page level : ℕ) → (position_over f page level).base % pages_of_table f level ≡ 0
over_aligned f page level =
    let e : ℕ = pages_of_table f level in
    let m : ℕ = page / e in
    let here : m * e ≡ m * e + 0 = omega arith in
    ap (λ x. x % e) here ∙ mod-mul-add m e 0 (pow_pos (f.index * (level + 1)))

module _ {f : Layout} (good : IsLayout f) {x : Extent} (part : IsExtent f x) where
  index_some : 0 < f.index
  index_some = omega (arith, good.index_is, good.granule_low)

  -- a table of the book of which a block takes the place lies in the block
  pub replaced_ends : (p : Position) → p.base % pages_of_table f p.level ≡ 0 → is_replaced f (tiles f x) p ≡ true →
      (b : Block) × IsOneBlock (tiles f x) b × (b.first ≤ p.base) × (end_of_table f p ≤ end_of b) × (p.level < level_of_size f b.log2)
  replaced_ends p aligned e =
      let r = replaced_tells f p (tiles f x) e in
      let t = tile_of good part r.0 r.1 in
      let inside : IsTableIn f r.0 p = r.2 in
      (r.0, r.1, inside.1, table_ends f.index p.level r.0.log2 r.0.first p.base index_some inside.0 t.legal.first_aligned aligned inside.2, inside.0)

  -- so it lies in the extent
  pub replaced_inside : (p : Position) → p.base % pages_of_table f p.level ≡ 0 → is_replaced f (tiles f x) p ≡ true → (x.first ≤ p.base) × (end_of_table f p ≤ x.end)
  replaced_inside p aligned e =
      let r = replaced_ends p aligned e in
      let t = tile_of good part r.0 r.1 in
      let from = t.from in let to = t.to in let low = r.2 in let high = r.3 in (omega arith, omega arith)

  -- no block takes the place of a table that the extent needs
  pub needed_stays : (p : Position) → IsAmong (tables_of f x) p → is_replaced f (tiles f x) p ≡ false
  needed_stays p h = false_from_ne_true (is_replaced f (tiles f x) p) (λ e.
      let n = needing f f.levels (tiles f x) p (needs_any f f.levels (tiles f x) p h) in
      let c : Block = n.0 in
      let input = part.in_input in
      let t = tile_of good part c n.1 in let to = t.to in
      let o = needs_of_block good c t.legal.a_size (omega arith) p n.2 in
      let over : position_over f c.first p.level ≡ p = o.2 in
      let aligned : p.base % pages_of_table f p.level ≡ 0 = subst (λ (q : Position). q.base % pages_of_table f p.level ≡ 0) over (over_aligned f c.first p.level) in
      let r = replaced_ends p aligned e in
      let base : c.first / pages_of_table f p.level * pages_of_table f p.level ≡ p.base = ap (λ (q : Position). q.base) over in
      let split = shr_split c.first (f.index * (p.level + 1)) in
      let less = mod_below c.first (pages_of_table f p.level) (pow_pos (f.index * (p.level + 1))) in
      let low = r.2 in let high = r.3 in
      let same : r.0 ≡ c = same_tile f x.prot (tiles f x) x.first x.out (x.end - x.first) r.0 c (extent_tiling good part) r.1 n.1 (omega arith) (omega arith) in
      let level : level_of_size f r.0.log2 ≡ level_of_size f c.log2 = ap (λ (b : Block). level_of_size f b.log2) same in
      let up = o.0 in let down = r.4 in omega arith)

  -- nor of one of the spine
  pub spine_stays : (levels : ℕ) → f.start ≤ levels → (l : ℕ) → starting_top levels ≤ l → is_replaced f (tiles f x) (spine_position l) ≡ false
  spine_stays levels start l low = none_replaced f (spine_position l) (tiles f x) (λ b m inside.
      let t = tile_of good part b m in
      let size = good.sizes_low b.log2 t.legal.a_size in let down = inside.0 in omega arith)

-- Where the way stands: the blocks are of the table of that level or of those below.
module _ {f : Layout} (good : IsLayout f) {v : View} {x : Extent} {level : ℕ} (at : IsExtentAt f v x level) where
  tile_low : (b : Block) → IsOneBlock (tiles f x) b → level_of_size f b.log2 ≤ level
  tile_low b m =
      let some : 0 < f.index = omega (arith, good.index_is, good.granule_low) in
      let t = tile_of good at.extent b m in
      let from = t.from in let to = t.to in let under = at.range.under in
      let split = shr_split x.first (f.index * (level + 1)) in
      elim (cases_lt b.log2 (f.index * (level + 1))) [
        | inl low ↦ size_low f.index b.log2 level some low
        | inr high ↦ absurd (
            let wide : 2 ^ (f.index * (level + 1)) ≤ 2 ^ b.log2 = pow_mono high in
            let size : b.log2 ≡ first_size f x = first_block good at.extent b m (omega arith) in
            let small = at.low in omega arith)
      ]

  -- where no table begins in the range, no block takes the place of one
  pub no_table_replaced : HasNoTable v x.first x.end level → HasNoneReplaced f v (tiles f x)
  no_table_replaced none p m = none_replaced f p (tiles f x) (λ b mb inside.
      let t = tile_of good at.extent b mb in
      let from = t.from in let to = t.to in let low = tile_low b mb in
      let a = inside.0 in let c = inside.1 in let d = inside.2 in
      none p m (omega arith) (omega arith) (omega arith))

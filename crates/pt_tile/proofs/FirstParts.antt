-- The first part of an extent: a run of blocks, or what lies under the entry over its first page.
use Rattle.std.proofs.Common.{◌≡◌, ℕ, zero, suc, ◌+◌, ◌-◌, ◌*◌, ◌/◌, ◌^◌, ◌<◌, ◌≤◌, List, [], ◌∷◌, ◌++◌, inl, inr, ap, sym, ◌∙◌, subst, arith}
use Rattle.std.proofs.lemmas.Nat.{pow_pos, shr_split}
use Rattle.pt_model.specs.declared.block.Block.{Block}
use Rattle.pt_model.specs.declared.block.Prot.{Prot}
use Rattle.pt_model.specs.Layout.{Layout, IsLegalBlock, end_of, level_of_size}
use Rattle.pt_model.specs.Tables.{end_of_table, position_over}
use Rattle.pt_model.specs.Tiling.{IsTiling}
use Rattle.pt_model.proofs.TilingFacts.{tiling_is}
use Rattle.pt_format.specs.Laws.{IsLayout}
use Rattle.pt_tile.proofs.Levels.{size_low}
use Rattle.pt_tile.specs.declared.extent.Extent.{Extent}
use Rattle.pt_tile.specs.Extents.{IsFirstTo, IsExtent, IsOneBlock, first_size, from, tiles}
use Rattle.pt_tile.proofs.RunTilings.{run_from, run_split}
use Rattle.pt_tile.proofs.FirstSizes.{extent_tiling, size_ends, size_greatest}
use Rattle.pt_tile.proofs.UnderEntries.{first_tile, inside_low, split_tiles, under_part}

-- Blocks of lists.

pub block_left : (xs ys : List Block) (b : Block) → IsOneBlock xs b → IsOneBlock (xs ++ ys) b
block_left [] ys b h = absurd h
block_left (x ∷ xs) ys b h = elim h [ inl e ↦ inl e | inr more ↦ inr (block_left xs ys b more) ]

pub block_right : (xs ys : List Block) (b : Block) → IsOneBlock ys b → IsOneBlock (xs ++ ys) b
block_right [] ys b h = h
block_right (x ∷ xs) ys b h = inr (block_right xs ys b h)

-- a block of a tiling
pub record IsTile (f : Layout) (first end : ℕ) (b : Block) : Type 0 where
  pub from : first ≤ b.first
  pub to : end_of b ≤ end
  pub legal : IsLegalBlock f b

pub tile_in : (f : Layout) (prot : Prot) (bs : List Block) (first out left end : ℕ) (b : Block) → first + left ≡ end → IsTiling f prot first out left bs → IsOneBlock bs b → IsTile f first end b
tile_in f prot [] first out left end b e t h = absurd h
tile_in f prot (c ∷ cs) first out left end b e t h =
    let at : c.first ≡ first = ap (λ (d : Block). d.first) t.0 in
    let fits : 2 ^ c.log2 ≤ left = t.1.fits in
    elim h [
      | inl same ↦
          subst (IsTile f first end) same (record {
            from = omega arith;
            to = omega arith;
            legal = subst (IsLegalBlock f) (sym t.0) t.1.legal;
          })
      | inr more ↦
          let r = tile_in f prot cs (first + 2 ^ c.log2) (out + 2 ^ c.log2) (left - 2 ^ c.log2) end b (omega arith) t.2 more in
          record { from = (let low = r.from in omega arith); to = r.to; legal = r.legal }
    ]

module _ {f : Layout} (good : IsLayout f) {x : Extent} (part : IsExtent f x) where
  pub tile_of : (b : Block) → IsOneBlock (tiles f x) b → IsTile f x.first x.end b
  tile_of b h =
      let some = part.some in let input = part.in_input in
      tile_in f x.prot (tiles f x) x.first x.out (x.end - x.first) x.end b (omega arith) (extent_tiling good part) h

  -- the block over its first page is the first one
  pub first_block : (b : Block) → IsOneBlock (tiles f x) b → b.first ≡ x.first → b.log2 ≡ first_size f x
  first_block b h e =
      let some = part.some in
      let input = part.in_input in
      let output = part.in_output in
      let ends = size_ends good part in
      elim (subst (λ (bs : List Block). IsOneBlock bs b) (first_tile good part) h) [
        | inl same ↦ sym (ap (λ (c : Block). c.log2) same)
        | inr more ↦
            let r : Extent = from x (x.first + 2 ^ first_size f x) in
            let t = tile_in f x.prot (tiles f r) r.first r.out (r.end - r.first) x.end b (omega arith)
            (tiling_is f x.prot r.first r.out (r.end - r.first) good.has_pages (omega arith) (omega arith)) more in
            absurd (let low = t.from in let pages = pow_pos (first_size f x) in omega arith)
      ]

  -- what is left of it
  pub rest_part : (to : ℕ) → x.first ≤ to → to < x.end → IsExtent f (from x to)
  rest_part to low high = record {
    some = high;
    in_input = part.in_input;
    in_output = let output = part.in_output in omega arith;
    stated = part.stated;
  }

  -- a part that ends before has no greater first block
  pub cut_part : (to : ℕ) → x.first < to → to ≤ x.end → IsExtent f (record x { end = to })
  cut_part to low high = record {
    some = low;
    in_input = let input = part.in_input in omega arith;
    in_output = let output = part.in_output in omega arith;
    stated = part.stated;
  }

  pub cut_step : (to : ℕ) → x.first < to → to ≤ x.end → first_size f (record x { end = to }) ≤ first_size f x
  cut_step to low high =
      let t = size_greatest good (cut_part to low high) in
      (size_greatest good part).greatest (first_size f (record x { end = to })) t.legal (let fits = t.fits in omega arith)

  module _ (level to : ℕ) (is : IsFirstTo f level x to) where
    pub first_from : x.first < to
    first_from = elim is [
      | inl run ↦ (let some = run_from good part run.2 in let e = run.3 in omega arith)
      | inr entry ↦ (let some = (under_part good part level).some in let e = entry.1 in omega arith)
    ]

    pub first_to : to ≤ x.end
    first_to = elim is [
      | inl run ↦ (let ends = run.2.within in let e = run.3 in omega arith)
      | inr entry ↦ (let e = entry.1 in omega arith)
    ]

    pub first_split : tiles f x ≡ tiles f (record x { end = to }) ++ tiles f (from x to)
    first_split = elim is [
      | inl run ↦ run_split good part run.2 ∙ ap (λ (n : ℕ). tiles f (record x { end = n }) ++ tiles f (from x n)) (sym run.3)
      | inr entry ↦
          (split_tiles good part level entry.0).0
          ∙ ap (λ (n : ℕ). tiles f (record x { end = n }) ++ tiles f (from x n)) (sym entry.1)
    ]

  -- a block inside a table, past its first page, is smaller than it
  pub low_after : (level to : ℕ) → x.end ≤ end_of_table f (position_over f x.first level) → x.first < to → (after : to < x.end) → first_size f (from x to) < f.index * (level + 1)
  low_after level to under low after =
      let bits : ℕ = f.index * (level + 1) in
      let s = shr_split x.first bits in
      let e : end_of_table f (position_over f x.first level) ≡ (x.first / 2 ^ bits + 1) * 2 ^ bits = omega arith in
      inside_low good x.prot bits (x.first / 2 ^ bits) to x.end part.in_input (omega arith) (omega arith) to (from x to).out (first_size f (from x to)) (omega arith) (omega arith)
      (size_greatest good (rest_part to (omega arith) after)).legal

  -- the table of its first block's words is below an entry's level
  pub first_level : (level : ℕ) → first_size f x < f.index * level → level_of_size f (first_size f x) < level
  first_level level low =
      let some : 0 < f.index = omega (arith, good.index_is, good.granule_low) in
      let high : 0 < level = positive level low in
      let e : f.index * level ≡ f.index * (level - 1 + 1) = (let k : level ≡ level - 1 + 1 = omega arith in ap (λ (j : ℕ). f.index * j) k) in
      let h = size_low f.index (first_size f x) (level - 1) some (omega (arith, e)) in omega arith
    where
      positive : (level : ℕ) → first_size f x < f.index * level → 0 < level
      positive zero low = absurd (omega arith)
      positive (suc n) low = omega arith

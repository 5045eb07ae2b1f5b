-- The tiling of an extent: its first block, and what lies under the entry over its first page.
use Rattle.std.proofs.Common.{◌≡◌, ℕ, zero, suc, ◌+◌, ◌-◌, ◌*◌, ◌/◌, ◌%◌, ◌^◌, ◌<◌, ◌≤◌, List, ◌∷◌, ◌++◌, min, inl, inr, refl, ap, sym, ◌∙◌, arith}
use Rattle.std.proofs.lemmas.Bool.{cases_eq, cases_lt}
use Rattle.std.proofs.lemmas.Nat.{pow_pos, shr_split, shr_high, mod_below}
use Rattle.pt_model.specs.declared.block.Block.{Block}
use Rattle.pt_model.specs.declared.block.Prot.{Prot}
use Rattle.pt_model.specs.Layout.{Layout, IsLegal, input_pages, output_pages, pages_of_entry}
use Rattle.pt_model.specs.Tiling.{IsGreatestSize, block_at, greatest_size, tiling}
use Rattle.pt_model.proofs.TilingFacts.{tiling_first}
use Rattle.pt_format.specs.Laws.{IsLayout}
use Rattle.pt_tile.proofs.Begun.{coarse_is_fine, part_in}
use Rattle.pt_tile.specs.declared.extent.Extent.{Extent}
use Rattle.pt_tile.specs.Extents.{IsExtent, first_size, from, tiles, under_entry}
use Rattle.pt_tile.proofs.FirstSizes.{size_greatest}
use Rattle.pt_tile.proofs.TileFacts.{greatest_is}

module _ {f : Layout} (good : IsLayout f) {x : Extent} (part : IsExtent f x) where
  pub first_tile : tiles f x ≡ block_at x.first (first_size f x) x.out x.prot ∷ tiles f (from x (x.first + 2 ^ first_size f x))
  first_tile =
      let some = part.some in
      let hi = part.in_input in
      let out : x.out + 2 ^ first_size f x ≡ x.out + (x.first + 2 ^ first_size f x - x.first) = omega arith in
      let left : x.end - x.first - 2 ^ first_size f x ≡ x.end - (x.first + 2 ^ first_size f x) = omega arith in
      tiling_first f x.prot x.first x.out (x.end - x.first) (first_size f x) good.has_pages (omega arith) part.in_output (size_greatest good part)
      ∙ (λ i. block_at x.first (first_size f x) x.out x.prot ∷ tiling f x.prot (x.first + 2 ^ first_size f x) (out i) (left i))

-- Below one entry: blocks from a page on that are smaller than the entry end with it.
module _ {f : Layout} (good : IsLayout f) (prot : Prot) (bits quotient cut end : ℕ) (hi : end ≤ input_pages f) (to : cut ≤ end) (within : cut ≤ (quotient + 1) * 2 ^ bits) where
  -- a block at a page inside the entry is smaller than the entry
  pub inside_low : (s out k : ℕ) → quotient * 2 ^ bits < s → s < (quotient + 1) * 2 ^ bits → IsLegal f s k out → k < bits
  inside_low s out k after before legal = elim (cases_lt k bits) [
    | inl low ↦ low
    | inr high ↦ absurd (
        let aligned : s % 2 ^ bits ≡ 0 = coarse_is_fine bits k s high legal.first_aligned in
        let split : s ≡ quotient * 2 ^ bits + (s - quotient * 2 ^ bits) = omega arith in
        let q : s / 2 ^ bits ≡ quotient = ap (λ y. y / 2 ^ bits) split ∙ shr_high quotient bits (s - quotient * 2 ^ bits) (omega arith) in
        let whole : s / 2 ^ bits * 2 ^ bits ≡ quotient * 2 ^ bits = ap (λ y. y * 2 ^ bits) q in omega (arith, whole, shr_split s bits))
  ]

  -- it ends within the entry, and where the part does if that ends before
  ends_within : (s out k : ℕ) → quotient * 2 ^ bits ≤ s → s < cut → k < bits → IsGreatestSize f s out (end - s) k → cut ≡ min ((quotient + 1) * 2 ^ bits) end → s + 2 ^ k ≤ cut
  ends_within s out k after before low top is =
      let split : s ≡ quotient * 2 ^ bits + (s - quotient * 2 ^ bits) = omega arith in
      let q : s / 2 ^ bits ≡ quotient = ap (λ y. y / 2 ^ bits) split ∙ shr_high quotient bits (s - quotient * 2 ^ bits) (omega arith) in
      let whole : s / 2 ^ bits * 2 ^ bits ≡ quotient * 2 ^ bits = ap (λ y. y * 2 ^ bits) q in
      let lies = part_in bits k s (omega arith) top.legal.first_aligned in omega (arith, whole, lies, shr_split s bits, top.fits)

  -- the greatest size is the same where the part ends with the entry
  shorter : (s out k : ℕ) → s + 2 ^ k ≤ cut → IsGreatestSize f s out (end - s) k → IsGreatestSize f s out (cut - s) k
  shorter s out k ends top = record {
    legal = top.legal;
    fits = omega arith;
    greatest = λ j legal fits. top.greatest j legal (omega arith);
  }

  same_cut : (s out : ℕ) → s ≡ cut → tiling f prot s out (end - s) ≡ tiling f prot s out (cut - s) ++ tiling f prot cut (out + (cut - s)) (end - cut)
  same_cut s out same =
      let none : cut - s ≡ 0 = omega arith in
      let o : out ≡ out + (cut - s) = omega arith in
      (λ i. tiling f prot (same i) (o i) (end - same i)) ∙ ap (λ (n : ℕ). tiling f prot s out n ++ tiling f prot cut (out + (cut - s)) (end - cut)) (sym none)

  pub split_from : (fuel s out : ℕ) → cut ≡ min ((quotient + 1) * 2 ^ bits) end → cut - s ≤ fuel → quotient * 2 ^ bits ≤ s → s ≤ cut → out + (end - s) ≤ output_pages f →
      ((k : ℕ) → s < cut → IsGreatestSize f s out (end - s) k → k < bits) →
      tiling f prot s out (end - s) ≡ tiling f prot s out (cut - s) ++ tiling f prot cut (out + (cut - s)) (end - cut)
  split_from zero s out is few after before ho low = same_cut s out (omega arith)
  split_from (suc fuel) s out is few after before ho low = elim (cases_eq s cut) [
    | inl same ↦ same_cut s out same
    | inr other ↦
        let k : ℕ = greatest_size f s out (end - s) in
        let top : IsGreatestSize f s out (end - s) k = greatest_is f s out (end - s) good.has_pages (omega arith) (omega arith) ho in
        let ends : s + 2 ^ k ≤ cut = ends_within s out k after (omega arith) (low k (omega arith) top) top is in
        let some : 0 < 2 ^ k = pow_pos k in
        let left : end - s - 2 ^ k ≡ end - (s + 2 ^ k) = omega arith in
        let left' : cut - s - 2 ^ k ≡ cut - (s + 2 ^ k) = omega arith in
        let o : out + 2 ^ k + (cut - (s + 2 ^ k)) ≡ out + (cut - s) = omega arith in
        let all : tiling f prot s out (end - s) ≡ block_at s k out prot ∷ tiling f prot (s + 2 ^ k) (out + 2 ^ k) (end - s - 2 ^ k) =
        tiling_first f prot s out (end - s) k good.has_pages (omega arith) ho top in
        let short : tiling f prot s out (cut - s) ≡ block_at s k out prot ∷ tiling f prot (s + 2 ^ k) (out + 2 ^ k) (cut - s - 2 ^ k) =
        tiling_first f prot s out (cut - s) k good.has_pages (omega arith) (omega arith) (shorter s out k ends top) in
        let rest : tiling f prot (s + 2 ^ k) (out + 2 ^ k) (end - (s + 2 ^ k)) ≡ tiling f prot (s + 2 ^ k) (out + 2 ^ k) (cut - (s + 2 ^ k)) ++ tiling f prot cut (out + 2 ^ k + (cut - (s + 2 ^ k))) (end - cut) =
        split_from fuel (s + 2 ^ k) (out + 2 ^ k) is (omega arith) (omega arith) ends (omega arith)
        (λ j inside t. inside_low (s + 2 ^ k) (out + 2 ^ k) j (omega arith) (omega arith) t.legal) in
        all
        ∙ ap (λ (n : ℕ). block_at s k out prot ∷ tiling f prot (s + 2 ^ k) (out + 2 ^ k) n) left
        ∙ ap (λ (bs : List Block). block_at s k out prot ∷ bs) rest
        ∙ (λ i. block_at s k out prot ∷ (tiling f prot (s + 2 ^ k) (out + 2 ^ k) (sym left' i) ++ tiling f prot cut (o i) (end - cut)))
        ∙ ap (λ (bs : List Block). bs ++ tiling f prot cut (out + (cut - s)) (end - cut)) (sym short)
  ]

module _ {f : Layout} (good : IsLayout f) {x : Extent} (part : IsExtent f x) (level : ℕ) where
  abbrev over : ℕ
  over = x.first / pages_of_entry f level

  entry_has : over * pages_of_entry f level ≤ x.first
  entry_has = let s = shr_split x.first (f.index * level) in omega arith

  entry_ends : x.first < (over + 1) * pages_of_entry f level
  entry_ends = let s = shr_split x.first (f.index * level) in let m = mod_below x.first (pages_of_entry f level) (pow_pos (f.index * level)) in omega arith

  -- the part under the entry over its first page is a part, and ends where it does or with the entry
  pub under_part : IsExtent f (under_entry f level x)
  under_part = record {
    some = let a = entry_ends in let b = part.some in omega arith;
    in_input = let b = part.in_input in omega arith;
    in_output = let b = part.in_output in omega arith;
    stated = part.stated;
  }

  -- where its first block is smaller than an entry, its blocks under the entry come first, and the first one is smaller too
  pub split_tiles : first_size f x < f.index * level →
      (tiles f x ≡ tiles f (under_entry f level x) ++ tiles f (from x (under_entry f level x).end)) × (first_size f (under_entry f level x) < f.index * level)
  split_tiles low =
      let cut : ℕ = (under_entry f level x).end in
      let a = entry_has in let b = entry_ends in let c = part.some in let hi = part.in_input in let ho = part.in_output in
      let top = size_greatest good part in (
        split_from good x.prot (f.index * level) over cut x.end hi (omega arith) (omega arith) (cut - x.first) x.first x.out refl (omega arith) a (omega arith) ho
            (λ k inside t. let at_most = top.greatest k t.legal t.fits in omega arith),
        (let t = size_greatest good under_part in
            let at_most = top.greatest (first_size f (under_entry f level x)) t.legal (let fits = t.fits in omega arith) in omega arith),
      )

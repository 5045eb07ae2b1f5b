-- Runs under one table of a level: no block of a greater size than the level's begins inside it.
use Rattle.std.proofs.Common.{◌≡◌, ℕ, ◌+◌, ◌-◌, ◌*◌, ◌/◌, ◌^◌, ◌<◌, ◌≤◌, inl, inr, refl, sym, subst, arith}
use Rattle.std.specs.Prelude.{IsTrue}
use Rattle.std.proofs.lemmas.Bool.{cases_lt}
use Rattle.std.proofs.lemmas.Nat.{div_below, le-div, mod_below, pow-add, pow_pos, shr_split}
use Rattle.std.proofs.Math.Nat.{div-mul-le_self}
use Rattle.pt_num.proofs.Bits.{top_is_last, top_is_set}
use Rattle.pt_model.specs.Layout.{Layout, is_size}
use Rattle.pt_model.specs.Tables.{end_of_table, position_over}
use Rattle.pt_model.specs.Tiling.{IsGreatestSize}
use Rattle.pt_format.specs.Laws.{IsLayout}
use Rattle.pt_format.specs.Words.{HasSizes}
use Rattle.pt_tile.specs.declared.extent.Extent.{Extent}
use Rattle.pt_tile.specs.Extents.{IsExtent, IsRun, first_size}
use Rattle.pt_tile.proofs.FirstSizes.{size_greatest}
use Rattle.pt_tile.proofs.RunFacts.{HasNoGreater, fewer_fit, fitting_some, none_inside, run_some}
use Rattle.pt_tile.proofs.RunTilings.{run_is}

-- the top bit of the mask of a level's sizes tells the greatest size of a block under one entry of a table of the next level
pub most_at : (f : Layout) → 0 < f.index → (level k mask : ℕ) → HasSizes f level mask → mask / 2 ^ k ≡ 1 → (j : ℕ) → IsTrue (is_size f j) →
    j < f.index * (level + 1) → j ≤ k
most_at f some level k mask sizes one j size low =
    let split = shr_split mask k in
    let rest = mod_below mask (2 ^ k) (pow_pos k) in
    let double : 2 ^ (k + 1) ≡ 2 ^ k * 2 ^ 1 = pow-add 2 k 1 in
    let all : mask / 2 ^ k * 2 ^ k ≡ 1 * 2 ^ k = (λ i. one i * 2 ^ k) in
    let high : mask < 2 ^ (k + 1) = omega arith in
    let here = (sizes k).0 (top_is_set mask k (omega arith) high) in
    elim (cases_lt k j) [
      | inl above ↦
          let least : level * f.index ≤ k = (let d = div-mul-le_self k f.index in let at = here.1 in let same : k / f.index * f.index ≡ level * f.index = (λ i. at i * f.index) in omega arith) in
          let up : level ≤ j / f.index = le-div level j f.index some (omega arith) in
          let down : j / f.index < level + 1 = div_below j f.index (level + 1) some (let g : f.index * (level + 1) ≡ (level + 1) * f.index = omega arith in omega arith) in
          top_is_last mask k j high ((sizes j).1 (size, omega arith))
      | inr within ↦ within
    ]

module _ {f : Layout} (good : IsLayout f) {x : Extent} (part : IsExtent f x) where
  some_index : 0 < f.index
  some_index = omega (arith, good.index_is, good.granule_low)

  -- where the lowest level has blocks of one page alone, an extent for its tables begins with one
  pub page_first : (sizes : HasSizes f 0 1) → first_size f x < f.index * (0 + 1) → first_size f x ≡ 0
  page_first sizes low =
      let most = most_at f some_index 0 0 1 sizes refl (first_size f x) (size_greatest good part).legal.a_size low in omega arith

  -- where the first block has the greatest size of the level, all that fit are of it
  pub run_inside : (level k mask n : ℕ) → k ≡ first_size f x → HasSizes f level mask → mask / 2 ^ k ≡ 1 →
      x.end ≤ end_of_table f (position_over f x.first level) → n ≡ (x.end - x.first) / 2 ^ k → IsRun f x n
  run_inside level k mask n e sizes one under is =
      let some = part.some in
      let input = part.in_input in
      let top : IsGreatestSize f x.first x.out (x.end - x.first) k =
      subst (λ (j : ℕ). IsGreatestSize f x.first x.out (x.end - x.first) j) (sym e) (size_greatest good part) in
      let none : HasNoGreater f k x.first x.out x.end =
      none_inside f k x.first x.out x.end (f.index * (level + 1)) under (most_at f some_index level k mask sizes one) in
      let fits : n * 2 ^ k ≤ x.end - x.first = fewer_fit k (x.end - x.first) n (omega arith) in
      let one_at_least : 1 ≤ n = (let s = fitting_some k (x.end - x.first) top.fits in omega arith) in
      run_is f x k n some e one_at_least fits
      (run_some f x.prot good.has_pages k x.end n x.first x.out (x.end - x.first) (omega arith) part.in_output top none one_at_least fits (omega arith))

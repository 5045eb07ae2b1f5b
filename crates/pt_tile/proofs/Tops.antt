-- When a level is above the least top, by the tables of the level below.
use Rattle.std.proofs.Common.{◌≡◌, ℕ, zero, suc, ◌+◌, ◌*◌, ◌^◌, ◌<◌, ◌≤◌, ◌↔◌, ap, subst, arith}
use Rattle.std.proofs.Math.Nat.{mul-le-mul_right}
use Rattle.pt_model.specs.Layout.{Layout, pages_of_table}
use Rattle.pt_model.specs.Tables.{least_top}
use Rattle.pt_model.proofs.Tops.{above_top, reaches_top}
use Rattle.pt_tile.specs.Counting.{begun}
use Rattle.pt_tile.proofs.Begun.{begun_over, begun_mono, begun_whole}

-- a level from the starting top on is above the least top where one table of the level below reaches the page
pub above_is : (g : Layout) (n end level : ℕ) → 1 ≤ n → n ≤ level → level < g.levels →
    (begun (g.index * level) end ≤ 1) ↔ (least_top g n end < level)
above_is g n end zero some from below = absurd (omega arith)
above_is g n end (suc level) some from below =
    let size : g.index * suc level ≡ g.index * (level + 1) = omega arith in (
      (λ few.
          let one : begun (g.index * suc level) end * 2 ^ (g.index * suc level) ≤ 1 * 2 ^ (g.index * suc level) = mul-le-mul_right (2 ^ (g.index * suc level)) few in
          let reach : end ≤ 2 ^ (g.index * suc level) = omega (arith, one, begun_over (g.index * suc level) end) in
          let turned : end ≤ pages_of_table g level = subst (λ (t : ℕ). end ≤ 2 ^ t) size reach in
          omega (arith, reaches_top g n end level (omega arith) turned)),
      (λ above.
          let reach : end ≤ pages_of_table g level = above_top g n end level (omega arith) (omega arith) in
          let turned : end ≤ 1 * 2 ^ (g.index * suc level) = omega (arith, reach, ap (λ (t : ℕ). 2 ^ t) size) in
          omega (arith, begun_mono (g.index * suc level) end (1 * 2 ^ (g.index * suc level)) turned, begun_whole (g.index * suc level) 1)),
    )

-- The need of a made script is less than all frames: each of its maps needs at most as many tables as the tree has levels.
use Rattle.std.proofs.Common.{◌≡◌, ◌⊎◌, ℕ, zero, suc, ◌+◌, ◌-◌, ◌*◌, ◌/◌, ◌%◌, ◌^◌, ◌<◌, ◌≤◌, List, [], ◌∷◌, Option, Some, None, inl, inr, length, arith, refl, ap, subst, sym}
use Rattle.std.specs.Prelude.{map, fold, ◌==◌, if◌then◌else◌, Bool, true, false}
use Rattle.std.specs.List.{range_with_len}
use Rattle.std.proofs.lemmas.Bool.{cases_lt, eqb-true}
use Rattle.std.proofs.lemmas.Nat.{pow_pos, pow-add, mul-le, le-div}
use Rattle.std.proofs.Math.Nat.{mul-div_left, div-le_of_le-mul}
use Rattle.std.proofs.Math.Pow.{pow_mono}
use Rattle.std.proofs.lemmas.List.FromFn.{length-map-range_with_len}
use Rattle.pt_model.specs.declared.block.Block.{Block}
use Rattle.pt_model.specs.declared.block.Prot.{Prot}
use Rattle.pt_model.specs.declared.position.Position.{Position}
use Rattle.pt_model.specs.declared.command.What.{What}
use Rattle.pt_model.specs.declared.command.What.TheVariants.{Map}
use Rattle.pt_model.specs.Layout.{Layout, end_of, level_of_size, pages_of_table}
use Rattle.pt_model.specs.Pages.{page_under}
use Rattle.pt_model.specs.Sets.{IsAmong}
use Rattle.pt_model.specs.Tiling.{tiling_within, tiling, greatest_size}
use Rattle.pt_model.specs.Tables.{add_positions, all_needed, end_of_table, least_top, levels_between, needed, position_over, spine_position, starting_top}
use Rattle.pt_model.specs.Book.{MapRefusal, map_refusal, new_book}
use Rattle.pt_model.specs.Run.{Machine}
use Rattle.pt_model.proofs.Positions.{adds_are, among_append, among_first, among_levels, among_more, among_none, levels_among}
use Rattle.pt_model.proofs.Quotients.{over_from, past_here}
use Rattle.pt_model.proofs.Tops.{power_mono, reaches_top}
use Rattle.pt_format.specs.Laws.{IsLayout}
use Rattle.pt_tile.proofs.Levels.{over_first}
use Rattle.pt_laws.specs.Need.{need, need_of_one, needed_by}
use Rattle.pt_laws.proofs.Between.{size_fits}
use Rattle.pt_laws.proofs.Enough.{sorted_needed}
use Rattle.pt_laws.proofs.NeedRuns.{fork_need, some_pages}
use Rattle.pt_laws.proofs.Sizes.{AnyOf, length_members}
use Rattle.pt_made.specs.Made.{bytes, first_of, fork_at, branch_of, inner_fork, numbered, body_on, per_branch, state_before, region, margin}
use Rattle.pt_made.proofs.Drawing.{length_drawn}
use Rattle.pt_made.proofs.Nested.{fork_numbered}
use Rattle.pt_made.proofs.Calls
use Rattle.pt_made.proofs.Calls.{HasPages, IsCall, AreCalls, drawn_are_calls}

-- what all blocks need is what one of them needs
any_of : (f : Layout) (l : ℕ) (bs : List Block) (ps : List Position) (q : Position) → IsAmong (fold (λ xs b. add_positions xs (needed f l b)) ps bs) q → IsAmong ps q ⊎ AnyOf f l bs q
any_of f l [] ps q m = inl m
any_of f l (b ∷ bs) ps q m = elim (any_of f l bs (add_positions ps (needed f l b)) q m) [
  | inl here ↦ elim ((adds_are (needed f l b) ps q).0 here) [ inl old ↦ inl old | inr new ↦ inr (inl new) ]
  | inr later ↦ inr (inr later)
]

-- A range of at most the pages under one of the lowest tables, which ends under the table of level 1 at page 0.
module _ {f : Layout} (good : IsLayout f) (l lo hi : ℕ) (levels : 3 ≤ l) (few : hi ≤ lo + 2 ^ f.index) (low : hi ≤ 2 ^ (f.index * 2)) where
  one : f.index * (0 + 1) ≡ f.index
  one = omega arith

  -- what it may need: two of the lowest tables, and one table of each level above
  abbrev places : List Position
  places = position_over f lo 0 ∷ position_over f (lo + 2 ^ f.index) 0 ∷ map spine_position (range_with_len 1 (l - 1))

  places_count : length places ≡ l + 1
  places_count = omega (arith, length-map-range_with_len spine_position 1 (l - 1))

  spine_in : (k : ℕ) → 1 ≤ k → k < l → IsAmong places (spine_position k)
  spine_in k some below =
      among_more (spine_position k) (position_over f lo 0) (position_over f (lo + 2 ^ f.index) 0 ∷ map spine_position (range_with_len 1 (l - 1)))
      (among_more (spine_position k) (position_over f (lo + 2 ^ f.index) 0) (map spine_position (range_with_len 1 (l - 1)))
      (levels_among spine_position (l - 1) 1 k some (omega arith)))

  lowest_in : (page : ℕ) → lo ≤ page → page < hi → IsAmong places (position_over f page 0)
  lowest_in page from to =
      let table : pages_of_table f 0 ≡ 2 ^ f.index = ap (λ (n : ℕ). 2 ^ n) one in
      elim (cases_lt page (end_of_table f (position_over f lo 0))) [
        | inl first ↦ among_first (position_over f page 0) (position_over f lo 0) (position_over f (lo + 2 ^ f.index) 0 ∷ map spine_position (range_with_len 1 (l - 1))) (over_from f lo page 0 from first)
        | inr second ↦
            let up = le-div (lo / pages_of_table f 0 + 1) page (pages_of_table f 0) (pow_pos (f.index * (0 + 1))) (omega arith) in
            let over = mul-le (lo / pages_of_table f 0 + 1) (pages_of_table f 0) (page / pages_of_table f 0) (pages_of_table f 0) up (omega arith) in
            let past = past_here lo (f.index * (0 + 1)) in
            let same : position_over f (lo + 2 ^ f.index) 0 ≡ position_over f page 0 = over_from f page (lo + 2 ^ f.index) 0 (omega arith) (omega arith) in
            among_more (position_over f page 0) (position_over f lo 0) (position_over f (lo + 2 ^ f.index) 0 ∷ map spine_position (range_with_len 1 (l - 1)))
            (among_first (position_over f page 0) (position_over f (lo + 2 ^ f.index) 0) (map spine_position (range_with_len 1 (l - 1))) (sym same))
      ]

  level_one : (k : ℕ) → 1 ≤ k → hi ≤ pages_of_table f k
  level_one k some =
      let wide : f.index * 2 ≤ f.index * (k + 1) = mul-le f.index 2 f.index (k + 1) (omega arith) (omega arith) in
      omega (arith, power_mono (f.index * 2) (f.index * (k + 1)) wide)

  over_in : (page k : ℕ) → lo ≤ page → page < hi → k < l → IsAmong places (position_over f page k)
  over_in page zero from to below = lowest_in page from to
  over_in page (suc k) from to below =
      subst (λ (q : Position). IsAmong places q) (sym (over_first f page (suc k) (omega (arith, level_one (suc k) (omega arith)))))
      (spine_in (suc k) (omega arith) below)

  block_in : (b : Block) → lo ≤ b.first → b.first < hi → end_of b ≤ hi → (q : Position) → IsAmong (needed f l b) q → IsAmong places q
  block_in b from some to q m =
      let top = reaches_top f l (end_of b) (l - 1) (omega arith) (omega (arith, level_one (l - 1) (omega arith))) in
      elim (among_append q (map (position_over f b.first) (levels_between (level_of_size f b.log2) (least_top f l (end_of b)))) (map spine_position (levels_between (starting_top l) (least_top f l (end_of b)))) m) [
        | inl over ↦
            let h = among_levels (position_over f b.first) (least_top f l (end_of b) + 1 - level_of_size f b.log2) (level_of_size f b.log2) q over in
            let from_size = h.1 in let to_top = h.2 in
            subst (λ (p : Position). IsAmong places p) (sym h.3) (over_in b.first h.0 from some (omega arith))
        | inr spine ↦
            let h = among_levels spine_position (least_top f l (end_of b) + 1 - starting_top l) (starting_top l) q spine in
            let from_start = h.1 in let to_top = h.2 in
            subst (λ (p : Position). IsAmong places p) (sym h.3) (spine_in h.0 (omega arith) (omega arith))
      ]

  tiles_in : (prot : Prot) (fuel first out left : ℕ) → lo ≤ first → first + left ≤ hi → (q : Position) → AnyOf f l (tiling_within fuel f prot first out left) q → IsAmong places q
  tiles_in prot zero first out left from to q any = absurd any
  tiles_in prot (suc fuel) first out zero from to q any = absurd any
  tiles_in prot (suc fuel) first out (suc more) from to q any =
      let fits = size_fits f first out more good.has_pages in
      let some = pow_pos (greatest_size f first out (suc more)) in
      elim any [
        | inl now ↦ block_in (record { first = first; log2 = greatest_size f first out (suc more); out = out; prot = prot }) from (omega arith) (omega arith) q now
        | inr later ↦
            tiles_in prot fuel (first + 2 ^ greatest_size f first out (suc more)) (out + 2 ^ greatest_size f first out (suc more)) (suc more - 2 ^ greatest_size f first out (suc more))
            (omega arith) (omega arith) q later
      ]

pub few_needed : {f : Layout} → IsLayout f → (l first count out : ℕ) (prot : Prot) → 3 ≤ l → 0 < count → count ≤ 2 ^ f.index → first + count ≤ 2 ^ (f.index * 2) →
    length (all_needed f l (tiling f prot first out count)) ≤ l + 1
few_needed {f} good l first count out prot levels some few low =
    let within : first + count ≤ first + 2 ^ f.index = omega arith in
    omega (
      arith,
      places_count good l first (first + count) levels within low,
      length_members (places good l first (first + count) levels within low) (all_needed f l (tiling f prot first out count)) (sorted_needed f l first count out prot good.has_pages some)
          (λ q m. elim (any_of f l (tiling f prot first out count) [] q m) [
            | inl none ↦ absurd (among_none q none)
            | inr any ↦ tiles_in good l first (first + count) levels within low prot count first out count (omega arith) (omega arith) q any
          ]),
    )

-- The need of a call.

div_bytes : (f : Layout) (pages : ℕ) → bytes f pages / 2 ^ f.granule ≡ pages
div_bytes f pages = mul-div_left pages (pow_pos f.granule)

page_from : (f : Layout) (page : ℕ) → page_under f (bytes f page) ≤ page
page_from f page =
    let some = pow_pos f.input in
    div-le_of_le-mul (2 ^ f.granule) (let less : bytes f page % 2 ^ f.input ≤ 2 ^ f.granule * page = omega arith in less)

branches_low : {f : Layout} → IsLayout f → first_of f 4 ≤ 2 ^ (f.index * 2)
branches_low {f} good =
    let a = good.granule_low in let b = good.index_is in
    let wide : f.index + 5 ≤ f.index * 2 = omega arith in
    let all : 2 ^ (f.index + 5) ≤ 2 ^ (f.index * 2) = pow_mono wide in
    let r : region f ≡ 2 ^ f.index * 4 = pow-add 2 f.index 2 in
    let m : margin f ≤ 2 ^ f.index = power_mono (f.index - 1) f.index (omega arith) in
    let w : 2 ^ (f.index + 5) ≡ 2 ^ f.index * 32 = pow-add 2 f.index 5 in
    omega arith

module _ (m : Machine) (good : IsLayout m.layout) (levels : 3 ≤ m.levels) (start count out : ℕ) (prot : Prot) (has : HasPages m.layout start count) where
  abbrev asked : What
  asked = Map (bytes m.layout start) (bytes m.layout out) (bytes m.layout count) prot

  abbrev refusal : Option MapRefusal
  refusal = map_refusal m.layout (new_book m.layout m.levels) (bytes m.layout start) (bytes m.layout out) (bytes m.layout count)

  abbrev wanted : List Position
  wanted = all_needed m.layout m.levels (tiling m.layout prot (page_under m.layout (bytes m.layout start)) (bytes m.layout out / 2 ^ m.layout.granule) (bytes m.layout count / 2 ^ m.layout.granule))

  by_refusal : (o : Option MapRefusal) → refusal ≡ o → need_of_one m asked ≤ m.levels
  by_refusal (Some r) is =
      let none : needed_by m asked ≡ [] = ap (λ (o : Option MapRefusal). elim o as (λ _. List Position) [ Some refused ↦ [] | None ↦ wanted ]) is in
      omega (arith, ap (λ (ps : List Position). length ps) none)
  by_refusal None is =
      let all : needed_by m asked ≡ wanted = ap (λ (o : Option MapRefusal). elim o as (λ _. List Position) [ Some refused ↦ [] | None ↦ wanted ]) is in
      let pages = div_bytes m.layout count in
      let some = some_pages m.layout (new_book m.layout m.levels) (bytes m.layout start) (bytes m.layout out) (bytes m.layout count) is in
      let first = page_from m.layout start in
      let few = has.few in let ends = has.ends in
      omega (
        arith,
        ap (λ (ps : List Position). length ps) all,
        few_needed good m.levels (page_under m.layout (bytes m.layout start)) (bytes m.layout count / 2 ^ m.layout.granule) (bytes m.layout out / 2 ^ m.layout.granule) prot levels some (omega arith)
            (omega (arith, branches_low good)),
      )

call_need : (m : Machine) → IsLayout m.layout → 3 ≤ m.levels → (w : What) → IsCall m.layout w → need_of_one m w ≤ m.levels
call_need m good levels _ (Calls.unmap start count has) = omega arith
call_need m good levels _ (Calls.lookup start count has) = omega arith
call_need m good levels _ (Calls.map start count out prot has low) =
    by_refusal m good levels start count out prot has (refusal m good levels start count out prot has) refl

calls_need : (m : Machine) → IsLayout m.layout → 3 ≤ m.levels → (n : ℕ) (ws : List What) → AreCalls m.layout ws → need m (numbered n ws) ≤ m.levels * length ws
calls_need m good levels n [] h = omega arith
calls_need m good levels n (w ∷ ws) h = omega (arith, call_need m good levels w h.0, calls_need m good levels (n + 1) ws h.1)

-- and that of forks is that of their branches
fork_needs : (m : Machine) (n branch : ℕ) (left right : List What) →
    need m (numbered n (fork_at m.layout branch left right)) ≡ need m (numbered (n + 1) left) + need m (numbered (n + 1 + length left + 1) right)
fork_needs m n branch left right =
    let whole = ap (need m) (fork_numbered m.layout n branch left right) in
    let parts = fork_need m (numbered (n + 1) left) (numbered (n + 1 + length left + 1) right) [] n (bytes m.layout (first_of m.layout branch)) (n + 1 + length left) (n + 1 + length left + 1 + length right) in
    omega arith

branch_need : (m : Machine) → IsLayout m.layout → 3 ≤ m.levels → (n number branch : ℕ) → branch ≤ 3 → need m (numbered n (branch_of m.layout number branch)) ≤ m.levels * per_branch m.layout
branch_need m good levels n number branch low =
    let calls = drawn_are_calls good branch (per_branch m.layout) (state_before m.layout branch number) low in
    let count = length_drawn m.layout branch (per_branch m.layout) (state_before m.layout branch number) in
    subst (λ (k : ℕ). need m (numbered n (branch_of m.layout number branch)) ≤ m.levels * k) count (calls_need m good levels n (branch_of m.layout number branch) calls)

inner_need : (m : Machine) → IsLayout m.layout → 3 ≤ m.levels → (n number branch : ℕ) → branch ≤ 2 →
    need m (numbered n (inner_fork m.layout number branch)) ≤ m.levels * per_branch m.layout + m.levels * per_branch m.layout
inner_need m good levels n number branch low =
    omega (
      arith,
      fork_needs m n (branch + 1) (branch_of m.layout number branch) (branch_of m.layout number (branch + 1)),
      branch_need m good levels (n + 1) number branch (omega arith),
      branch_need m good levels (n + 1 + length (branch_of m.layout number branch) + 1) number (branch + 1) (omega arith),
    )

-- Four times so many commands, each of which needs at most six tables, are fewer than the frames.

few_by : (granule : ℕ) (x y : Bool) → (granule == 12) ≡ x → (granule == 14) ≡ y → granule ≤ 16 → 24 * (if x then 1000 else (if y then 250 else 60)) < 2 ^ (27 - granule)
few_by granule true y is other high = let e = eqb-true granule 12 is in subst (λ (g : ℕ). 24 * 1000 < 2 ^ (27 - g)) (sym e) (omega arith)
few_by granule false true is other high = let e = eqb-true granule 14 other in subst (λ (g : ℕ). 24 * 250 < 2 ^ (27 - g)) (sym e) (omega arith)
few_by granule false false is other high = let wide : 11 ≤ 27 - granule = omega arith in let more : 2 ^ 11 ≤ 2 ^ (27 - granule) = pow_mono wide in omega arith

pub made_need : (m : Machine) → IsLayout m.layout → 3 ≤ m.levels → m.levels ≤ 6 → (number : ℕ) → need m (body_on m.layout number) < 2 ^ (27 - m.layout.granule)
made_need m good levels high number =
    let whole = fork_needs m 4 2 (inner_fork m.layout number 0) (inner_fork m.layout number 2) in
    let left = inner_need m good levels (4 + 1) number 0 (omega arith) in
    let right = inner_need m good levels (4 + 1 + length (inner_fork m.layout number 0) + 1) number 2 (omega arith) in
    let each = mul-le m.levels (per_branch m.layout) 6 (per_branch m.layout) high (omega arith) in
    omega (arith, few_by m.layout.granule (m.layout.granule == 12) (m.layout.granule == 14) refl refl good.granule_high)
